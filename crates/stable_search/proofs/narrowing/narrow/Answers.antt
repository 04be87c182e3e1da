use Rattle.stable_search.proofs.NarrowLemmas.{narrows_on}
use Rattle.stable_search.proofs.narrowing.narrow.Goals as goal

pub loop-way-preserved : goal.loop-way-preserved
loop-way-preserved c =
    narrows_on c.args.ways.now c.loop-way.way-index c.way-item.result c.args.sets.now c.loop-way.sets c.narrow_where.new.sets c.loop-way-test.true c.way-item.is c.loop-way.invariant c.narrow_where.ensures
