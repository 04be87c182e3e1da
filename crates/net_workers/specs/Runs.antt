-- The threads' events are one run of the network.
use Rattle.std.specs.Prelude.{ℕ, ◌≡◌, ◌==◌, true, cond, List, [], ◌∷◌, map}
use mathlib.Core.List.{IsPrefix}
use Rattle.std.specs.List.{AllByRecursion}
use Rattle.ranked_policy.specs.Plans.{Plan}
use Rattle.run_model.specs.Network as runs
use Rattle.run_model.specs.Offers.{HasOutcome}
use Rattle.run_model.specs.Stamps.{offers_on}
use Rattle.router_model.specs.Settings.{Setting, IsSetting, linked}
use Rattle.router_runs.specs.Runs.{RunOrder, RunState, IsRunTo, new_logged, side_of}
use Rattle.router_runs.specs.Model.{network_of}
use Rattle.router_runs.specs.Promises.{PassesInOrder, ActsOnNothingAfterCloses}
use Rattle.router_runs.specs.Snapshots.{ClosesLoseRecordings, SnapshotsHold}
use Rattle.run_cuts.specs.ThroughSnapshot.{PassesThroughItsCuts}
use Rattle.router_core.specs.Views.{plain_of}
use Rattle.snap_collector.specs.Collector.{CollectorView, made_for, with_offers}
use Rattle.world_core.specs.Verdicts.{judged}
use Rattle.world_core.specs.World.{named}
use Rattle.world_core.specs.Replays.{IsCalledRun}
use Rattle.worker_loop.specs.declared.chore.Chore.{Chore}
use Rattle.worker_loop.specs.declared.journal.WorkerEvent.{WorkerEvent}
use Rattle.worker_loop.specs.Laws.{IsOrdered}
use Rattle.net_workers.specs.declared.record.Worked.{Worked}
use Rattle.net_workers.specs.Gathered.{all_events, IsSorted}
use Rattle.net_workers.specs.Ran.{Passed, IsRecord}

-- in each direction the items taken are the first of those put, one after another
abbrev pub InTurn : Passed → Type 0
InTurn p = (u v : ℕ) → IsPrefix (p.taken v u) (p.put u v)

-- the chores of a router, by its journal
abbrev pub chores_of : {G : Type 0} → List (Worked G) → ℕ → List Chore
chores_of [] u = []
chores_of (w ∷ ws) u = cond (w.router.number == u) w.journal.chores.items (chores_of ws u)

-- the gathered events are a run of the network. Its last state has the routers, the items that were put and taken, and
-- the offers that were made to the collector. Each event is what its router's call answers, and is a command only if
-- one of the router's chores is that command
pub record IsRunOfThreads {G : Type 0} (g : Setting) (p : Passed) (workers : List (Worked G))
    (gathered : List WorkerEvent) : Type 0 where
  pub order : RunOrder
  pub state : RunState
  pub run : IsRunTo g order state
  pub called : IsCalledRun g (runs.opening (λ u. new_logged g)) order state
  pub ordered : AllByRecursion (λ d. IsOrdered (chores_of workers d.router) d.event) order
  pub events : named order ≡ map (λ e. e.event) gathered
  pub routers : AllByRecursion (λ w. (state.routers w.router.number).router ≡ (plain_of w.router).router) workers
  pub put : (u v : ℕ) → state.put u v ≡ map (λ i. i.what) (p.put u v)
  pub taken : (u v : ℕ) → state.taken u v ≡ map (λ i. i.what) (p.taken v u)

-- every record is one of a run
abbrev pub RecordsAreRuns : {G : Type 0} → (G → List Chore) → Type 0
RecordsAreRuns {G} given =
    (plan : Plan) (turns : ℕ) (p : Passed) (workers : List (Worked G)) (c : CollectorView) (gathered : List WorkerEvent)
    → (record_of : IsRecord given plan turns p workers c gathered) → InTurn p → (g : Setting) → g.net ≡ plan → IsSetting g
    → (run : IsRunOfThreads g p workers gathered) × (run.state.offered ≡ offers_on record_of.collects.offers)

-- the promises of runs hold of a record, and a run of the same events passes through the cut of each snapshot whose
-- parts all routers made; the collector has exactly the offers of that run, and its verdict on a snapshot is how the
-- snapshot comes out in that run
pub record KeepsPromises {G : Type 0} (g : Setting) (p : Passed) (workers : List (Worked G)) (c : CollectorView)
    (gathered : List WorkerEvent) : Type 0 where
  pub run : IsRunOfThreads g p workers gathered
  pub in_order : (u v e : ℕ) → linked g.net u v ≡ true → PassesInOrder g run.state u v e × IsPrefix ((side_of run.state v u).acted e) ((side_of run.state u v).sent e)
  pub after_close : ActsOnNothingAfterCloses g run.order run.state
  pub closes : ClosesLoseRecordings g run.order run.state
  pub snapshots : SnapshotsHold g run.order run.state
  pub through : PassesThroughItsCuts g run.order run.state
  pub offered : made_for c ≡ with_offers (λ s. []) run.state.offered
  pub outcomes : (s : ℕ) → HasOutcome (network_of g) s run.state.offered (judged c s)

abbrev pub RecordsKeepTheirPromises : {G : Type 0} → (G → List Chore) → Type 0
RecordsKeepTheirPromises {G} given =
    (plan : Plan) (turns : ℕ) (p : Passed) (workers : List (Worked G)) (c : CollectorView) (gathered : List WorkerEvent)
    → IsRecord given plan turns p workers c gathered → InTurn p → (g : Setting) → g.net ≡ plan → IsSetting g
    → KeepsPromises g p workers c gathered

-- the promises hold in every setting of the network that chooses by rank
abbrev pub RunKeepsPromises : {G : Type 0} → Plan → Passed → List (Worked G) → CollectorView → List WorkerEvent → Type 0
RunKeepsPromises plan p workers c gathered = (g : Setting) → g.net ≡ plan → IsSetting g → KeepsPromises g p workers c gathered

-- and of the events of these journals, gathered
abbrev pub JournalsKeepPromises : {G : Type 0} → Plan → Passed → List (Worked G) → CollectorView → Type 0
JournalsKeepPromises plan p workers c = (gathered : List WorkerEvent) → IsSorted (all_events workers) gathered → RunKeepsPromises plan p workers c gathered
