use Rattle.stable_engine.specs.Listing.{follow_text}
use Rattle.stable_engine.proofs.StableLemmas.{text_on}
use Rattle.stable_engine.proofs.parts.put_follows.Goals as goal

pub loop-part-preserved : goal.loop-part-preserved
loop-part-preserved c =
    text_on (λ part. follow_text c.args.prefix.now part) c.args.parts.now c.loop-part.part-index c.part-item.result c.loop-part.out.items c.put_follow.new.out.items _
    c.loop-part-test.true c.part-item.is c.in_ok-put_follow.ensures c.loop-part.invariant
