-- Two routers that come to rest: those of the examples of `router_model`, of which router 1 is the origin.
use Rattle.std.specs.Prelude.{ℕ, ◌+◌, ◌*◌, ◌≡◌, List, [], ◌∷◌, ◌++◌, length, Ok, Err}
use Rattle.router_model.specs.declared.command.Command.TheVariants as command
use Rattle.router_model.specs.Examples.{p, pair, setting}
use Rattle.world_core.specs.declared.schedule.Event.{Event}
use Rattle.world_core.specs.declared.schedule.Event.TheVariants as schedule
use Rattle.world_core.specs.World.{Played, new_world, played}
use Rattle.world_core.specs.Orders.{round, repeated}
use Rattle.wheel_runs.specs.Changes.{first_state}
use Rattle.rest_runs.specs.Resting.{sum_of}
use Rattle.rest_runs.specs.Counted.{side_work, work, cost}

abbrev pub done : Played → List Event
done (Ok w) = w.run
done (Err fault) = []

abbrev pub kept_behind : Played → ℕ → List ℕ
kept_behind (Ok w) u = (w.routers u).router.kept p
kept_behind (Err fault) u = []

-- so many rounds behind these commands
abbrev pub behind_rounds : List Event → ℕ → Played
behind_rounds commands n = played setting (new_world setting) 0 (commands ++ repeated n (round pair))

-- router 1 originates its prefix, and decides it in the first round; the second finds nothing to do
abbrev pub originates : List Event
originates = schedule.Command 1 (command.Originate p) ∷ []

abbrev pub OneDecisionAndRest : Type 0
OneDecisionAndRest =
    (done (behind_rounds originates 1) ≡ originates ++ schedule.Decide 1 ∷ []) × (done (behind_rounds originates 2) ≡ originates ++ schedule.Decide 1 ∷ [])

-- both start their session, and router 1 originates: the rounds do 26 events, the last of them in round 8, and router 2
-- keeps its path through router 1
abbrev pub starts : List Event
starts = schedule.Command 1 (command.Start 2) ∷ schedule.Command 2 (command.Start 1) ∷ originates

abbrev pub SessionAndRest : Type 0
SessionAndRest =
    (length (done (behind_rounds starts 8)) ≡ 3 + 26) × (length (done (behind_rounds starts 9)) ≡ 3 + 26)
    × (kept_behind (behind_rounds starts 8) 1 ≡ 1 ∷ []) × (kept_behind (behind_rounds starts 8) 2 ≡ 2 ∷ 1 ∷ [])

-- a sum over a list
abbrev pub SumAdds : Type 0
SumAdds = sum_of (λ n. 2 * n) (1 ∷ 2 ∷ 3 ∷ []) ≡ 12

-- of the two, as nothing was done yet: what may be done in incarnations 0 and 1, without snapshots, and what a change
-- of a path costs
abbrev pub WorkOfThePair : Type 0
WorkOfThePair =
    (side_work setting 1 0 ≡ 503829) × (work setting 1 0 (first_state setting) ≡ 2 * 503829) × (cost setting ≡ 12290)
