-- where each settled value comes is known
use Rattle.stable_search.specs.Following.{Settles}
use Rattle.stable_search.proofs.following.settle_each.Given as goal

abbrev pub invariant-loop-place : goal.invariant-loop-place
invariant-loop-place l = Settles l.ends l.sets l.levels l.level l.settled.items
