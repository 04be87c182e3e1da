-- Worlds that come to rest by rounds.
-- g is a setting, w y worlds, u a router's number, n a number of rounds.
use Rattle.std.specs.Prelude.{ℕ, ◌+◌, ◌*◌, ◌≡◌, ◌≤◌, ◌<◌, Bool, true, List, Some, Ok}
use Rattle.std.specs.List.{AllByRecursion}
use Rattle.prefix_lanes.specs.Bits.{PrefixView}
use Rattle.ranked_policy.specs.Plans.{IsRouter, IsOrigin, IsNamed}
use Rattle.stable_paths.specs.Stable.{IsStable}
use Rattle.router_model.specs.Settings.{Setting, IsSetting, linked, names}
use Rattle.router_model.specs.Sides.{is_up}
use Rattle.router_runs.specs.Runs.{RunOrder, RunState, IsRunTo}
use Rattle.router_runs.specs.Mirrors.{table_commands_at}
use Rattle.world_core.specs.declared.schedule.Event.{Event}
use Rattle.world_core.specs.World.{World, Nothing, new_world, world_answer, played, AgreesWith}
use Rattle.world_core.specs.Orders.{turn, round, repeated}
use Rattle.world_core.specs.Watching.{rest_in}
use Rattle.wheel_runs.specs.Bounds.{IsBound}
use Rattle.wheel_runs.specs.Changes.{problem_of}
use Rattle.rest_runs.specs.Resting.{AllAreSafe}
use Rattle.rest_runs.specs.Counted.{Within, work, cost, all_bounds}

-- each event of a round finds nothing to do. So each router's turn, and any number of rounds, leave the world as it is
pub record IsAtRest (g : Setting) (w : World) : Type 0 where
  pub events : AllByRecursion (λ event. world_answer g w event ≡ Nothing) (round g.net)
  pub turns : (u : ℕ) → IsRouter g.net.routers u → played g w 0 (turn g.net u) ≡ Ok w
  pub rounds : (n : ℕ) → played g w 0 (repeated n (round g.net)) ≡ Ok w

-- without dispute wheels: for each world that was played there is a number of rounds behind which, if no event of them
-- is refused, a world is at rest
abbrev pub RoundsComeToRest : Type 0
RoundsComeToRest =
    (g : Setting) → IsSetting g → AllAreSafe g.net → (events : List Event) (w : World) → played g (new_world g) 0 events ≡ Ok w
    → (enough : ℕ) × ((n : ℕ) → enough ≤ n → (y : World) → played g w 0 (repeated n (round g.net)) ≡ Ok y → IsAtRest g y)

-- more rounds than `work` of the run that a world stands at the end of, and `cost` times the numbers of a bound of each
-- prefix, are enough
abbrev pub RoundsAreCounted : Type 0
RoundsAreCounted =
    (g : Setting) → IsSetting g → (order : RunOrder) (state : RunState) → IsRunTo g order state → (most last : ℕ) → Within g state most last
    → (B : PrefixView → List ℕ → ℕ) → ((q : PrefixView) → IsNamed g.net.origins q → IsBound (λ u. table_commands_at u order) (λ u v. most) g.net q (B q))
    → (w : World) → AgreesWith g w state → (n : ℕ) → work g most last state + cost g * all_bounds g B < n
    → (y : World) → played g w 0 (repeated n (round g.net)) ≡ Ok y → IsAtRest g y

-- and a world that obeys so many rounds finds one that does nothing, and answers how many did something before it
abbrev pub RestIsFound : Type 0
RestIsFound =
    (g : Setting) → IsSetting g → AllAreSafe g.net → (events : List Event) (w : World) → played g (new_world g) 0 events ≡ Ok w
    → (enough : ℕ)
    × ((n : ℕ) → enough ≤ n → (y : World) → played g w 0 (repeated n (round g.net)) ≡ Ok y → (busy : ℕ) × (rest_in g w 0 n ≡ Some busy))

-- ---- in which routes it rests

-- each session is Established
abbrev pub AllAreUp : Setting → World → Type 0
AllAreUp g w = (u v : ℕ) → linked g.net u v ≡ true → is_up ((w.routers u).router.sides v) ≡ true

-- the path that a router keeps for a prefix
abbrev pub kept_in : World → PrefixView → ℕ → List ℕ
kept_in w q u = (w.routers u).router.kept q

-- the prefix is originated or not, as its origin has it
abbrev pub IsOriginated : Setting → World → PrefixView → Bool → Type 0
IsOriginated g w q originated = (u : ℕ) → IsOrigin g.net.origins u q → (w.routers u).router.originated q ≡ originated

-- with or without dispute wheels: the kept paths of a world at rest are a stable assignment, if each session is
-- Established
abbrev pub RestIsStable : Type 0
RestIsStable =
    (g : Setting) → IsSetting g → (events : List Event) (w : World) → played g (new_world g) 0 events ≡ Ok w → IsAtRest g w → AllAreUp g w
    → (q : PrefixView) → names g.net.origins q ≡ true → (originated : Bool) → IsOriginated g w q originated
    → IsStable (record { net = g.net; prefix = q; originated = originated }) (kept_in w q)

-- without dispute wheels they are the one stable assignment of a prefix that is originated
abbrev pub RestIsTheOne : Type 0
RestIsTheOne =
    (g : Setting) → IsSetting g → AllAreSafe g.net → (events : List Event) (w : World) → played g (new_world g) 0 events ≡ Ok w → IsAtRest g w → AllAreUp g w
    → (q : PrefixView) → names g.net.origins q ≡ true → IsOriginated g w q true
    → (paths : ℕ → List ℕ) → IsStable (problem_of g q) paths → (u : ℕ) → IsRouter g.net.routers u → kept_in w q u ≡ paths u
