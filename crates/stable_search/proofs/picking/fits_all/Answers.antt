use Rattle.std.proofs.Common.{refl, subst}
use Rattle.std.proofs.lemmas.List.{take_all}
use Rattle.std.proofs.lemmas.List.Elements.{All-more}
use Rattle.std.specs.List.{All}
use Rattle.stable_search.specs.Picks.{FitsWay}
use Rattle.stable_search.proofs.picking.fits_all.Goals as goal

pub loop-way-preserved : goal.loop-way-preserved
loop-way-preserved c =
    All-more (FitsWay c.args.pick.now) c.args.ways.now c.loop-way.way-index c.way-item.result c.loop-way-test.true c.loop-way.invariant
    (subst (FitsWay c.args.pick.now) c.way-item.is (c.if-not-fits_way.ensures.0 refl))

pub returns : goal.returns
returns c = (
  λ t. subst (All (FitsWay c.args.pick.now)) (take_all c.loop-way.way-index c.args.ways.now c.loop-way-test.false) c.loop-way.invariant,
  λ all. refl,
)
