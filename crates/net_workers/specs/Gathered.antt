-- The journals of all workers, put into one order.
use Rattle.std.specs.Prelude.{List, [], ◌∷◌, ◌++◌}
use Rattle.std.specs.Ordering.{nat_cmp}
use Rattle.std.specs.List.Sorted.{IsNonDecreasingBy, IsStableByKey}
use Rattle.worker_loop.specs.declared.journal.WorkerEvent.{WorkerEvent}
use Rattle.net_workers.specs.declared.record.Worked.{Worked}

-- the events of journals, one journal after another
abbrev pub all_events : {G : Type 0} → List (Worked G) → List WorkerEvent
all_events [] = []
all_events (w ∷ ws) = w.journal.events.items ++ all_events ws

-- sorted by stamp; events of one stamp as they stood
pub record IsSorted (all gathered : List WorkerEvent) : Type 0 where
  pub rising : IsNonDecreasingBy (λ e. e.stamp) gathered
  pub stable : IsStableByKey (λ e. e.stamp) nat_cmp all gathered

-- events can be sorted so
abbrev pub EventsCanBeSorted : Type 0
EventsCanBeSorted = (all : List WorkerEvent) → (gathered : List WorkerEvent) × IsSorted all gathered
