use Rattle.stable_search.proofs.NarrowLemmas.{narrows_then}
use Rattle.stable_search.proofs.narrowing.narrow_all.Goals as goal

pub loop-round-preserved : goal.loop-round-preserved
loop-round-preserved c = narrows_then c.args.ways.now c.args.sets.now c.loop-round.sets c.narrow-left.new.sets c.loop-round.invariant c.narrow-left.ensures

pub returns-then-left-eq0 : goal.returns-then-left-eq0
returns-then-left-eq0 c = narrows_then c.args.ways.now c.args.sets.now c.loop-round.sets c.narrow-left.new.sets c.loop-round.invariant c.narrow-left.ensures
