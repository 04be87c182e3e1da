use Rattle.std.proofs.Common.{◌≡◌, ◌<◌, length, arith}
use Rattle.ranked_policy.proofs.Loops.{all_more, all_done}
use Rattle.ranked_policy.proofs.admission.has_room.Goals as goal
use Rattle.ranked_policy.proofs.admission.has_room.Goals.{else-router-asn-via-then-router-asn+else-len-ge-MOST_RULES, else-router-asn-via-else-router-asn}

pub loop-router-preserved : goal.loop-router-preserved
loop-router-preserved c =
    all_more (λ r. r.asn ≡ c.args.asn → length r.rules < 64) c.args.routers.now c.loop-router.router-index c.router-item.result c.loop-router-test.true c.router-item.is
    c.loop-router.invariant
    (elim c.else-router-asn.branch [
      | else-router-asn-via-then-router-asn+else-len-ge-MOST_RULES w ↦ λ same. omega arith
      | else-router-asn-via-else-router-asn w ↦ λ same. absurd (w.if-router-asn.false same)
    ])

pub returns : goal.returns
returns c =
    all_done (λ r. r.asn ≡ c.args.asn → length r.rules < 64) c.args.routers.now c.loop-router.router-index c.loop-router-test.false c.loop-router.invariant
