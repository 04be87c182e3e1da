use Rattle.std.proofs.Common.{None, Some}
use Rattle.snap_marker.specs.Parts.{part_of}
use Rattle.snap_collector.specs.Collecting.{made_in, member_of}
use Rattle.snap_collector.proofs.Sole.{fault_from}
use Rattle.snap_collector.proofs.verdicts.sole_fault.Goals as goal

pub returns-in-Some-mismatch_of : goal.returns-in-Some-mismatch_of
returns-in-Some-mismatch_of c =
    fault_from (made_in c.args.offers.now) (member_of c.args.member.now) (part_of c.args.part.now) c.requires.sole c.as_slice-peers.result.now c.as_slice-peers.ensures (Some c.in-Some-mismatch_of.peer)
    c.if-part.false c.in-None.ensures c.in-Some-mismatch_of.ensures

pub returns-in-None-mismatch_of : goal.returns-in-None-mismatch_of
returns-in-None-mismatch_of c =
    fault_from (made_in c.args.offers.now) (member_of c.args.member.now) (part_of c.args.part.now) c.requires.sole c.as_slice-peers.result.now c.as_slice-peers.ensures None
    c.if-part.false c.in-None.ensures c.in-None-mismatch_of.ensures
