-- The runs of worlds and of records of threads: paths change seldom, and settled snapshots have the one stable assignment.
-- g is a setting, q a prefix, w a world; p has what passed between threads, c their collector.
use Rattle.std.specs.Prelude.{ℕ, ◌≡◌, List, Ok}
use Rattle.prefix_lanes.specs.Bits.{PrefixView}
use Rattle.ranked_policy.specs.Plans.{Plan, IsNamed}
use Rattle.snap_collector.specs.Collector.{CollectorView}
use Rattle.router_model.specs.Settings.{Setting, IsSetting}
use Rattle.router_runs.specs.Runs.{RunOrder, RunState}
use Rattle.world_core.specs.declared.schedule.Event.{Event}
use Rattle.world_core.specs.World.{World, new_world, played}
use Rattle.world_core.specs.Keeping.{HoldsOfItsRuns}
use Rattle.worker_loop.specs.declared.chore.Chore.{Chore}
use Rattle.worker_loop.specs.declared.journal.WorkerEvent.{WorkerEvent}
use Rattle.net_workers.specs.declared.record.Worked.{Worked}
use Rattle.net_workers.specs.Ran.{Passed, IsRecord}
use Rattle.net_workers.specs.Runs.{InTurn, KeepsPromises}
use Rattle.wheel_runs.specs.Changes.{ChangesSeldom}
use Rattle.wheel_runs.specs.Settling.{SettlesInOne}

-- of each prefix of the network, the paths of a run change seldom
abbrev pub EachChangesSeldom : Setting → RunOrder → RunState → Type 0
EachChangesSeldom g order state = (q : PrefixView) → IsNamed g.net.origins q → ChangesSeldom g q order state

-- of the runs that a world stands at the end of
abbrev pub HoldsOfWorlds : (Setting → RunOrder → RunState → Type 0) → Type 0
HoldsOfWorlds Holds =
    (g : Setting) → IsSetting g → (events : List Event) (w : World) → played g (new_world g) 0 events ≡ Ok w
    → HoldsOfItsRuns g w (Holds g)

-- of the run of a record of threads, which keeps the promises of runs
abbrev pub HoldsOfRecords : {G : Type 0} → (G → List Chore) → (Setting → RunOrder → RunState → Type 0) → Type 0
HoldsOfRecords {G} given Holds =
    (plan : Plan) (turns : ℕ) (p : Passed) (workers : List (Worked G)) (c : CollectorView) (gathered : List WorkerEvent)
    → IsRecord given plan turns p workers c gathered → InTurn p → (g : Setting) → g.net ≡ plan → IsSetting g
    → (keeps : KeepsPromises g p workers c gathered) × Holds g keeps.run.order keeps.run.state

abbrev pub WorldsChangeSeldom : Type 0
WorldsChangeSeldom = HoldsOfWorlds EachChangesSeldom

abbrev pub RecordsChangeSeldom : {G : Type 0} → (G → List Chore) → Type 0
RecordsChangeSeldom given = HoldsOfRecords given EachChangesSeldom

abbrev pub WorldsSettleInOne : Type 0
WorldsSettleInOne = HoldsOfWorlds (λ g order state. SettlesInOne g state)

abbrev pub RecordsSettleInOne : {G : Type 0} → (G → List Chore) → Type 0
RecordsSettleInOne given = HoldsOfRecords given (λ g order state. SettlesInOne g state)
