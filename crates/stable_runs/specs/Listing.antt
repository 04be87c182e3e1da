-- Settled snapshots, and all stable assignments of a network.
use Rattle.std.specs.Prelude.{ℕ, ◌≡◌, true, List, [], length, Ok}
use Rattle.std.specs.List.{All, Any}
use Rattle.prefix_lanes.specs.Bits.{PrefixView}
use Rattle.ranked_policy.specs.Plans.{Plan, IsRouter, IsOrigin}
use Rattle.stable_paths.specs.Stable.{Problem, IsStable}
use Rattle.stable_search.specs.declared.every.Every.{Every}
use Rattle.stable_search.specs.Every.{choices_of, HasChoice, IsEveryStable}
use Rattle.run_model.specs.Offers.{Settled}
use Rattle.snap_marker.specs.Recordings.{RouterPart}
use Rattle.snap_collector.specs.Collector.{CollectorView}
use Rattle.router_model.specs.Settings.{Setting, IsSetting, names}
use Rattle.router_runs.specs.Runs.{RunOrder, RunState, IsRunTo}
use Rattle.router_runs.specs.Snapshots.{HasMade, HaveMade, ComesOut, AsOriginated}
use Rattle.world_core.specs.declared.schedule.Event.{Event}
use Rattle.world_core.specs.World.{World, new_world, played}
use Rattle.world_core.specs.Keeping.{HoldsOfItsRuns}
use Rattle.worker_loop.specs.declared.chore.Chore.{Chore}
use Rattle.worker_loop.specs.declared.journal.WorkerEvent.{WorkerEvent}
use Rattle.net_workers.specs.declared.record.Worked.{Worked}
use Rattle.net_workers.specs.Ran.{Passed, IsRecord}
use Rattle.net_workers.specs.Runs.{InTurn, KeepsPromises}

-- a prefix of a network, originated by its origin
abbrev pub originated : Plan → PrefixView → Problem
originated net q = record { net = net; prefix = q; originated = true }

-- the paths have one of the choices of each part
abbrev pub AreListed : (ℕ → List ℕ) → Every → Type 0
AreListed paths every = All (HasChoice paths) every.parts

-- no assignment is stable: a part has no choice
abbrev pub ListsNone : Every → Type 0
ListsNone every = Any (λ part. choices_of part ≡ []) every.parts

-- one assignment is stable: each part has one choice
abbrev pub ListsOne : Every → Type 0
ListsOne every = All (λ part. length (choices_of part) ≡ 1) every.parts

-- the settled snapshots of a state of a run
pub record SettlesInListed (g : Setting) (state : RunState) : Type 0 where
  -- the paths of a settled snapshot are listed, for each prefix that the origin's part originates
  pub listed : (s : ℕ) → ComesOut g state s Settled → (parts : ℕ → RouterPart) → HaveMade g state s parts
      → (q : PrefixView) → names g.net.origins q ≡ true → AsOriginated g q parts true
      → (every : Every) → IsEveryStable (originated g.net q) every → AreListed (λ u. (parts u).kept q) every
  -- if no assignment is stable, no snapshot is settled whose origin's part originates the prefix
  pub none : (s u : ℕ) (q : PrefixView) → names g.net.origins q ≡ true → IsOrigin g.net.origins u q
      → (part : RouterPart) → HasMade state s u part → part.originated q ≡ true
      → (every : Every) → IsEveryStable (originated g.net q) every → ListsNone every → ComesOut g state s Settled → ⊥
  -- if one assignment is stable, each settled snapshot has its paths
  pub one : (s : ℕ) → ComesOut g state s Settled → (parts : ℕ → RouterPart) → HaveMade g state s parts
      → (q : PrefixView) → names g.net.origins q ≡ true → AsOriginated g q parts true
      → (every : Every) → IsEveryStable (originated g.net q) every → ListsOne every
      → (paths : ℕ → List ℕ) → IsStable (originated g.net q) paths
      → (u : ℕ) → IsRouter g.net.routers u → (parts u).kept q ≡ paths u

abbrev pub RunsSettleInListed : Type 0
RunsSettleInListed = (g : Setting) → IsSetting g → (order : RunOrder) (state : RunState) → IsRunTo g order state → SettlesInListed g state

-- the runs that a world stands at the end of settle in listed assignments
abbrev pub WorldsSettleInListed : Type 0
WorldsSettleInListed =
    (g : Setting) → IsSetting g → (events : List Event) (w : World) → played g (new_world g) 0 events ≡ Ok w
    → HoldsOfItsRuns g w (λ order state. SettlesInListed g state)

-- the run of a record of threads, which keeps the promises of runs, settles in listed assignments
abbrev pub RecordsSettleInListed : {G : Type 0} → (G → List Chore) → Type 0
RecordsSettleInListed {G} given =
    (plan : Plan) (turns : ℕ) (p : Passed) (workers : List (Worked G)) (c : CollectorView) (gathered : List WorkerEvent)
    → IsRecord given plan turns p workers c gathered → InTurn p → (g : Setting) → g.net ≡ plan → IsSetting g
    → (keeps : KeepsPromises g p workers c gathered) × SettlesInListed g keeps.run.state
