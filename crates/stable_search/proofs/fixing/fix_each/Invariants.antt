-- the fixed paths are right
use Rattle.stable_search.specs.Fixing.{AreFixed}
use Rattle.stable_search.proofs.fixing.fix_each.Given as goal

abbrev pub invariant-loop-place : goal.invariant-loop-place
invariant-loop-place l = AreFixed l.instance l.choosers l.fixed.items
