-- Worlds of the code that come to rest by rounds.
use Rattle.std.specs.Prelude.{ℕ, ◌≡◌, ◌≤◌, ◌<◌, ◌^◌, Bool, List, Ok}
use Rattle.ranked_policy.specs.Plans.{IsNetwork}
use Rattle.world_core.specs.declared.schedule.Order.TheVariants as order
use Rattle.world_core.specs.Orders.{events_of}
use Rattle.world_core.specs.Views.{WorldView, ComesOut, Obeys}
use Rattle.world_core.specs.IdleTurns.{TurnsAreIdle}
use Rattle.rest_runs.specs.Resting.{AllAreSafe}

-- without dispute wheels: for each world of the code there is a number of rounds behind which, if they are obeyed,
-- every turn finds nothing to do, in each setting of the network
abbrev pub ObeyedRoundsComeToRest : Type 0
ObeyedRoundsComeToRest =
    (x : WorldView) → IsNetwork x.net → x.net.settings.hold < 2 ^ 16 → AllAreSafe x.net → ComesOut x
    → (enough : ℕ)
    × ((n : ℕ) → enough ≤ n → (y : WorldView) → y.net ≡ x.net → Obeys (Ok tt) x (events_of x.net (order.Rounds n)) y
    → (marks : List Bool) → TurnsAreIdle y marks)
