use Rattle.std.proofs.Common.{subst, sym}
use Rattle.stable_search.specs.Every.{choices_of, IsPart}
use Rattle.stable_engine.specs.Listing.{only_text}
use Rattle.stable_engine.proofs.StableLemmas.{text_on}
use Rattle.stable_engine.proofs.parts.put_routes_of.Goals as goal

pub loop-part-preserved : goal.loop-part-preserved
loop-part-preserved c =
    text_on (λ part. only_text c.args.prefix.now c.args.router part.routers (choices_of part)) c.args.parts.now c.loop-part.part-index c.part-item.result c.loop-part.out.items c.put_only.new.out.items _
    c.loop-part-test.true c.part-item.is c.in_ok-put_only.ensures c.loop-part.invariant

pub put_only-requires : goal.put_only-requires
put_only-requires c = subst IsPart (sym c.part-item.is) (c.requires c.loop-part.part-index c.part-item.result c.loop-part-test.true)
