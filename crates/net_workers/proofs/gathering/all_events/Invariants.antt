-- the events of the journals read, and those of the journals that are left, are all
use Rattle.std.proofs.Common.{◌≡◌, ◌++◌, drop}
use Rattle.net_workers.specs.Gathered.{all_events}
use Rattle.net_workers.proofs.gathering.all_events.Given as goal

abbrev pub invariant-loop-worked : goal.invariant-loop-worked
invariant-loop-worked g l = l.all.items ++ all_events (drop l.worked-index l.workers) ≡ all_events l.workers
