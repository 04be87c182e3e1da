use Rattle.bgp_codec.proofs.UpdateLoops.{rising_on}
use Rattle.bgp_codec.proofs.attr_fitting.is_rising.Goals as goal

pub raws-preserved : goal.raws-preserved
raws-preserved c =
    rising_on c.args.raws.now c.raws.left.now c.raw-item.result c.next-item.result c.in-len1-up.len_at_least c.in-len1-up-rest.len_at_least c.raw-item.is c.next-item.is c.if-raw-next.false
    c.raws.invariant
