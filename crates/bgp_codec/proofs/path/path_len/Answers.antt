use Rattle.std.proofs.Common.{arith, ap, length}
use Rattle.bgp_codec.specs.Updates.{segment_octets}
use Rattle.bgp_codec.proofs.OpenLoops.{count_one}
use Rattle.bgp_codec.proofs.UpdateLoops.{segment_size}
use Rattle.bgp_codec.proofs.path.path_len.Goals as goal

pub loop-segment-preserved : goal.loop-segment-preserved
loop-segment-preserved c =
    let n = count_one (segment_octets c.args.width) c.args.path.now c.loop-segment.segment-index c.segment-item.result c.loop-segment-test.true c.segment-item.is in
    rw n (omega (arith, segment_size c.args.width c.segment-item.result, c.loop-segment.invariant, ap length c.as_slice-count.ensures, c.saturating_add.ensures, rw (c.asn_size-size.ensures, c.as_slice-count.ensures) at c.saturating_mul.ensures, c.saturating_add-len.ensures))
