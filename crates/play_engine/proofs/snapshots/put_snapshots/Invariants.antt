-- what was put, before what is left, is what all are printed as
use Rattle.std.proofs.Common.{◌≡◌, ◌++◌, drop, map}
use Rattle.snap_collector.specs.Collecting.{member_of}
use Rattle.snap_collector.specs.Collector.{made_for}
use Rattle.play_engine.specs.Reporting.{snapshots_text}
use Rattle.play_engine.proofs.snapshots.put_snapshots.Given as goal

abbrev pub invariant-loop-number : goal.invariant-loop-number
invariant-loop-number l =
    l.out.items ++ snapshots_text l.network (map member_of l.collector.members) (made_for l.collector) (drop l.number-index l.numbers)
    ≡ l.fn.out.items ++ snapshots_text l.network (map member_of l.collector.members) (made_for l.collector) l.numbers
