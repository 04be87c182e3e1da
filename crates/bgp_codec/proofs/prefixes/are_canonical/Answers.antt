use Rattle.prefix_lanes.specs.Bits.{IsCanonical}
use Rattle.bgp_codec.proofs.UpdateLoops.{all_one, all_all}
use Rattle.bgp_codec.proofs.prefixes.are_canonical.Goals as goal

pub loop-prefix-preserved : goal.loop-prefix-preserved
loop-prefix-preserved c =
    all_one IsCanonical c.args.prefixes.now c.loop-prefix.prefix-index c.prefix-item.result c.loop-prefix-test.true c.prefix-item.is c.loop-prefix.invariant c.len-len.ensures.canonical

pub returns : goal.returns
returns c = all_all IsCanonical c.args.prefixes.now c.loop-prefix.prefix-index c.loop-prefix-test.false c.loop-prefix.invariant
