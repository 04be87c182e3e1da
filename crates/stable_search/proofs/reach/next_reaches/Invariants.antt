-- what is known stays true
use Rattle.stable_search.specs.Reaching.{AreReaches}
use Rattle.stable_search.proofs.reach.next_reaches.Given as goal

abbrev pub invariant-loop-place : goal.invariant-loop-place
invariant-loop-place l = AreReaches l.instance l.choosers l.origin l.reaches.items
