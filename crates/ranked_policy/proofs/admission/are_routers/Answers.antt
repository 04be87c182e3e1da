use Rattle.std.proofs.lemmas.List.Elements.{All-more}
use Rattle.ranked_policy.specs.Plans.{IsRouter}
use Rattle.ranked_policy.proofs.Loops.{all_done}
use Rattle.ranked_policy.proofs.admission.are_routers.Goals as goal

pub loop-asn-preserved : goal.loop-asn-preserved
loop-asn-preserved c =
    All-more (IsRouter c.args.routers.now) c.args.asns.now c.loop-asn.asn-index 0 c.loop-asn-test.true c.loop-asn.invariant
    (c.is_router.ensures.0 c.if-not-is_router.false)

pub returns : goal.returns
returns c = all_done (IsRouter c.args.routers.now) c.args.asns.now c.loop-asn.asn-index c.loop-asn-test.false c.loop-asn.invariant
