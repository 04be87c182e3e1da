-- The clauses of calls that play events with a flag for each that is done: whether it is inside the cut of a snapshot.
use Rattle.std.specs.Prelude.{ℕ, ◌≡◌, ◌+◌, Bool, List, ◌++◌, length, Result, Ok, Err, MatchResult, Vec}
use Rattle.ranked_policy.specs.Plans.{Plan}
use Rattle.router_model.specs.Settings.{Setting, ChoosesByRank}
use Rattle.world_core.specs.declared.schedule.Event.{Event}
use Rattle.world_core.specs.declared.schedule.StepFault.{StepFault}
use Rattle.world_core.specs.declared.schedule.PlayFault.{PlayFault}
use Rattle.world_core.specs.Orders.{IsRefused, IsPlayed}
use Rattle.world_core.specs.Tested.{test_of, tested}
use Rattle.world_core.specs.World.{new_world, world_answer, world_of, played}
use Rattle.world_core.specs.Views.{WorldView, plain_world}

-- the event is done and its flag joins the others, or there is nothing to do, or the event is refused
abbrev pub Flags : Result (Unit {0}) StepFault → ℕ → WorldView → List Bool → Event → WorldView → List Bool → Type 0
Flags r s x flags event y flags_after =
    (g : Setting) → g.net ≡ x.net → ChoosesByRank g
    → MatchResult r
    (λ _. ((at : ℕ) → world_of g (plain_world x) event at (world_answer g (plain_world x) event) ≡ Ok (plain_world y))
    × (flags_after ≡ flags ++ test_of g s (plain_world x) (world_answer g (plain_world x) event)))
    (λ why. IsRefused g (plain_world x) event why)

-- so many of the events were played
pub record FlagsTo (plan : Plan) (events : List Event) (s : ℕ) (x : WorldView) (flags : List Bool) : Type 0 where
  pub net : x.net ≡ plan
  pub played : (g : Setting) → g.net ≡ plan → ChoosesByRank g → played g (new_world g) 0 events ≡ Ok (plain_world x)
  pub tests : (g : Setting) → g.net ≡ plan → ChoosesByRank g → flags ≡ tested g s (new_world g) events

-- these events are played behind any others: the place of a refused one counts from the first of all
abbrev pub PlaysOn : Result (Unit {0}) PlayFault → ℕ → WorldView → List Bool → List Event → WorldView → List Bool → Type 0
PlaysOn r s x flags events y flags_after =
    (net : Plan) (before : List Event) → FlagsTo net before s x flags
    → MatchResult r (λ _. FlagsTo net (before ++ events) s y flags_after)
    (λ fault. (g : Setting) → g.net ≡ net → ChoosesByRank g → IsPlayed g (before ++ events) (Err (record { at = length before + fault.at; why = fault.why })))

abbrev pub PlaysWithFlags : {Z : Type 0} → Result (WorldView × Vec Bool Z) PlayFault → Plan → List Event → ℕ → Type 0
PlaysWithFlags r net events s =
    MatchResult r (λ p. FlagsTo net events s p.0 p.1.items)
    (λ fault. (g : Setting) → g.net ≡ net → ChoosesByRank g → IsPlayed g events (Err fault))
