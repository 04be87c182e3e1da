-- What holds of every world that was played, or stepped from one that was.
use Rattle.std.specs.Prelude.{ℕ, ◌≡◌, true, List, Ok}
use mathlib.Core.List.{IsPrefix}
use mathlib.Core.Logic.{◌⊎◌}
use Rattle.run_model.specs.Network as runs
use Rattle.run_model.specs.Network.{NetworkEvent}
use Rattle.outbox.specs.declared.item.What.{What}
use Rattle.snap_marker.specs.Recordings.{MadeOffer}
use Rattle.router_model.specs.declared.refusal.RouterError.TheVariants as error
use Rattle.router_model.specs.Settings.{Setting, IsSetting, linked}
use Rattle.router_model.specs.Step.{Own, RouterEvent}
use Rattle.router_model.specs.Calls.{Advertise, Refuses, answer}
use Rattle.router_runs.specs.Runs.{RunOrder, RunState, IsRunTo, logged_steps}
use Rattle.router_runs.specs.Promises.{OctetsPassInOrder, ActsOnNothingAfterCloses}
use Rattle.router_runs.specs.Snapshots.{ClosesLoseRecordings, SnapshotsHold}
use Rattle.run_cuts.specs.ThroughSnapshot.{PassesThroughItsCuts}
use Rattle.world_core.specs.declared.schedule.Event.{Event}
use Rattle.world_core.specs.declared.schedule.Event.TheVariants as schedule
use Rattle.world_core.specs.World.{World, Does, Nothing, new_world, world_answer, world_after, played, name_of, AgreesWith, IsRunOfWorld, IsReplayed}

-- a property holds of each run that the world stands at the end of
abbrev pub HoldsOfItsRuns : Setting → World → (RunOrder → RunState → Type 0) → Type 0
HoldsOfItsRuns g w Holds = (order : RunOrder) (state : RunState) → IsRunTo g order state → AgreesWith g w state → Holds order state

-- the promises of a world. It stands at the end of a run. The UPDATEs that each router acted on in an incarnation of a
-- session are a beginning of those that its peer sent in it. For each run that it stands at the end of: octets pass in
-- order too, from end to end; nothing is acted on after a close; a close loses the recording of its router; the
-- snapshots are consistent cuts; a settled one is a stable path assignment, which stays; and a run of the same events
-- passes through the cut of each snapshot whose parts all routers made
pub record KeepsItsPromises (g : Setting) (w : World) : Type 0 where
  pub run : IsRunOfWorld g w
  pub in_order : (u v e : ℕ) → linked g.net u v ≡ true
      → IsPrefix (((w.routers v).router.sides u).acted e) (((w.routers u).router.sides v).sent e)
  pub octets : HoldsOfItsRuns g w (λ order state. OctetsPassInOrder g state)
  pub after_close : HoldsOfItsRuns g w (ActsOnNothingAfterCloses g)
  pub closes : HoldsOfItsRuns g w (ClosesLoseRecordings g)
  pub snapshots : HoldsOfItsRuns g w (SnapshotsHold g)
  pub through : HoldsOfItsRuns g w (PassesThroughItsCuts g)

-- the events that are played are a run
abbrev pub WhatIsPlayedIsARun : Type 0
WhatIsPlayedIsARun =
    (g : Setting) → IsSetting g → (events : List Event) (w : World) → played g (new_world g) 0 events ≡ Ok w → IsRunOfWorld g w

abbrev pub PlayedWorldsKeepTheirPromises : Type 0
PlayedWorldsKeepTheirPromises =
    (g : Setting) → IsSetting g → (events : List Event) (w : World) → played g (new_world g) 0 events ≡ Ok w → KeepsItsPromises g w

-- a world that was played comes out again when the events that it did are played alone; so does the world that a step
-- leaves
abbrev pub WhatIsPlayedIsReplayed : Type 0
WhatIsPlayedIsReplayed = (g : Setting) (events : List Event) (w : World) → played g (new_world g) 0 events ≡ Ok w → IsReplayed g w

abbrev pub StepsAreReplayed : Type 0
StepsAreReplayed =
    (g : Setting) (w : World) (event : Event) (u : ℕ) (e : RouterEvent) (stamp : ℕ) → IsReplayed g w
    → world_answer g w event ≡ Does u e stamp → IsReplayed g (world_after g w event u e stamp)

-- outboxes are full: each peer of the router that waits to be told has one at the limit
abbrev pub IsBlocked : Setting → World → Event → Type 0
IsBlocked g w event = (u v : ℕ) × (event ≡ schedule.Advertise u) × (answer g u (w.routers u) Advertise ≡ Refuses (error.Blocked v))

-- an event answers that there is nothing to do only if no step has its name, or outboxes are full
abbrev pub NothingWhereNoStepIs : Type 0
NothingWhereNoStepIs =
    (g : Setting) → IsSetting g → (w : World) (order : RunOrder) (state : RunState) → IsRunTo g order state → AgreesWith g w state
    → (event : Event) → world_answer g w event ≡ Nothing
    → IsBlocked g w event
    ⊎ ((d : NetworkEvent Own What MadeOffer) (new : RunState) → name_of d.router d.event ≡ event → runs.NetworkStep (logged_steps g) state d new → ⊥)
