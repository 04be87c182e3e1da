-- A run of the choices of calls, played by a world: its events, as a schedule names them, are played to the end of that
-- run.
use Rattle.std.specs.Prelude.{ℕ, ◌≡◌, ◌<◌, ◌≤◌, List, [], ◌∷◌, ◌++◌, length, Ok, Some}
use Rattle.std.specs.List.{find}
use Rattle.outbox.specs.Items.{next_item, octets_waiting}
use Rattle.run_model.specs.Network as runs
use Rattle.run_model.specs.Network.{alone, puts}
use Rattle.run_model.specs.ThroughCut.{first_part, second_part, with_offers}
use Rattle.run_model.specs.declared.stamps.TheConstants.{GREATEST_STAMP}
use Rattle.snap_marker.specs.Recordings.{RouterPart}
use Rattle.router_model.specs.declared.limits.TheConstants.{OUTBOX_LIMIT}
use Rattle.router_model.specs.Settings.{Setting, IsSetting, peers}
use Rattle.router_model.specs.State.{Router}
use Rattle.router_model.specs.Step.{RouterEvent, Advertises}
use Rattle.ranked_policy.specs.Plans.{IsNetwork}
use Rattle.router_model.specs.Calls.{Stamped, Call, Steps, answer, has_room}
use Rattle.router_runs.specs.Runs.{RunOrder, RunState, IsRunTo, new_logged, logged_steps, side_of}
use Rattle.router_runs.specs.Snapshots.{HaveMade}
use Rattle.run_cuts.specs.Choices.{IsChosenRun}
use Rattle.run_cuts.specs.ThroughSnapshot.{ThroughItsCut}
use Rattle.world_core.specs.declared.schedule.Event.{Event}
use Rattle.world_core.specs.World.{World, new_world, played, named, AgreesWith}

-- a world that plays these events stands at the end of that run, and did all of them
pub record PlaysTo (g : Setting) (order : RunOrder) (last : RunState) : Type 0 where
  pub world : World
  pub plays : played g (new_world g) 0 (named order) ≡ Ok world
  pub agrees : AgreesWith g world last
  pub did : world.run ≡ named order

abbrev pub ChosenRunsArePlayed : Type 0
ChosenRunsArePlayed =
    (g : Setting) → IsSetting g → (order : RunOrder) (last : RunState) → IsChosenRun g (runs.opening (λ u. new_logged g)) order last
    → length order ≤ GREATEST_STAMP → PlaysTo g order last

-- ---- the run of a world, in which each event is what a call answers

-- the event is the one that its router's call answers: a put takes as much as it may, an UPDATE goes to the least peer that waits
-- and has room
module _ (g : Setting) (u : ℕ) (x : Router) where
  abbrev pub IsCalled : RouterEvent → Type 0
  IsCalled (puts v i) = next_item g.net.settings.cut (x.sides v).outbox ≡ Some i
  IsCalled (alone (Advertises v)) = find (has_room g u x) (peers g.net u) ≡ Some v
  IsCalled _ = Unit {0}

abbrev pub IsCalledRun : Setting → RunState → RunOrder → RunState → Type 0
IsCalledRun g old [] new = old ≡ new
IsCalledRun g old (d ∷ ds) new =
    (next : RunState) × runs.NetworkStep (logged_steps g) old d next × IsCalled g d.router (old.routers d.router).router d.event × IsCalledRun g next ds new

-- a run of what calls answer is played to its end, whatever waits in the outboxes
abbrev pub CalledRunsArePlayed : Type 0
CalledRunsArePlayed =
    (g : Setting) → IsSetting g → (order : RunOrder) (last : RunState) → IsCalledRun g (runs.opening (λ u. new_logged g)) order last
    → length order ≤ GREATEST_STAMP → PlaysTo g order last

-- if a call answers a step, the event is the one that its router's call answers
abbrev pub AnswersAreCalled : Type 0
AnswersAreCalled =
    (g : Setting) → IsNetwork g.net → (u : ℕ) (x : Stamped) (call : Call) (e : RouterEvent) → answer g u x call ≡ Steps e → IsCalled g u x.router e

-- the run that a world played
pub record PlayedRun (g : Setting) (w : World) : Type 0 where
  pub order : RunOrder
  pub state : RunState
  pub run : IsCalledRun g (runs.opening (λ u. new_logged g)) order state
  pub events : named order ≡ w.run
  pub agrees : AgreesWith g w state

abbrev pub WorldsHaveTheirRuns : Type 0
WorldsHaveTheirRuns = (g : Setting) → IsSetting g → (events : List Event) (w : World) → played g (new_world g) 0 events ≡ Ok w → PlayedRun g w

-- no outbox ever reached the limit
abbrev pub NoneIsFull : Setting → RunOrder → Type 0
NoneIsFull g order =
    (before later : RunOrder) (at : RunState) → order ≡ before ++ later → IsRunTo g before at → (u v : ℕ)
    → octets_waiting (side_of at u v).outbox < OUTBOX_LIMIT

-- ---- the run through the cut of a snapshot, played

abbrev pub through_cut_of : {g : Setting} {order : RunOrder} {last : RunState} {s : ℕ} {parts : ℕ → RouterPart} → ThroughItsCut g order last s parts → RunOrder
through_cut_of {order = order} t = first_part t.cut order ++ second_part t.cut order

abbrev pub CutsArePlayed : Type 0
CutsArePlayed =
    (g : Setting) → IsSetting g → (w : World) (run : PlayedRun g w) → NoneIsFull g run.order → length run.order ≤ GREATEST_STAMP
    → (s : ℕ) (parts : ℕ → RouterPart) → HaveMade g run.state s parts → (t : ThroughItsCut g run.order run.state s parts)
    → PlaysTo g (through_cut_of t) (with_offers run.state (runs.offers_in (through_cut_of t)))
