use Rattle.std.proofs.lemmas.Bool.{iff_false}
use Rattle.std.proofs.Common.{◌≢◌, take}
use Rattle.ranked_policy.proofs.Loops.{pairs_more, pairs_done, apart_from}
use Rattle.ranked_policy.proofs.admission.are_distinct.Goals as goal

pub loop-i-preserved : goal.loop-i-preserved
loop-i-preserved c =
    let paths = c.args.paths.now in
    let i = c.loop-i.i in
    pairs_more (λ p q. p ≢ q) paths i c.index-paths-i.result c.loop-i-test.true c.index-paths-i.is c.loop-i.invariant
    (apart_from (take i paths) c.index-paths-i.result (iff_false (rw c.split_at.ensures.front at c.is_listed.ensures) c.if-is_listed.false))

pub returns : goal.returns
returns c = pairs_done (λ p q. p ≢ q) c.args.paths.now c.loop-i.i c.loop-i-test.false c.loop-i.invariant
