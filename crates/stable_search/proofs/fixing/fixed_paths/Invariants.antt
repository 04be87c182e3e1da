-- the fixed paths are right
use Rattle.stable_search.specs.Fixing.{AreFixed}
use Rattle.stable_search.proofs.fixing.fixed_paths.Given as goal

abbrev pub invariant-loop-round : goal.invariant-loop-round
invariant-loop-round l = AreFixed l.instance l.choosers l.fixed.items
