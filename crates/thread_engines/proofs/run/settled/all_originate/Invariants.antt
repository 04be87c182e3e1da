-- what is left decides
use Rattle.std.proofs.Common.{◌≡◌, drop, map}
use Rattle.snap_collector.specs.Collecting.{member_of}
use Rattle.snap_collector.specs.Collector.{made_for, kept_of}
use Rattle.thread_engines.specs.Running.{all_originate}
use Rattle.thread_engines.proofs.run.settled.all_originate.Given as goal

abbrev pub invariant-loop-origin : goal.invariant-loop-origin
invariant-loop-origin l =
    let offers = kept_of (map member_of l.collector.members) (made_for l.collector l.number) in
    all_originate (drop l.origin-index l.origin-items) offers ≡ all_originate l.network.origins offers
