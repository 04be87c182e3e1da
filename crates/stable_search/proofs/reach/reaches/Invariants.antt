-- what is known is true
use Rattle.stable_search.specs.Reaching.{AreReaches}
use Rattle.stable_search.proofs.reach.reaches.Given as goal

abbrev pub invariant-loop-round : goal.invariant-loop-round
invariant-loop-round l = AreReaches l.instance l.choosers l.origin l.reaches.items
