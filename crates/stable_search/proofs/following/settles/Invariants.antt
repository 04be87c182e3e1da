-- where each settled value comes is known
use Rattle.stable_search.specs.Following.{Settles}
use Rattle.stable_search.proofs.following.settles.Given as goal

abbrev pub invariant-loop-round : goal.invariant-loop-round
invariant-loop-round l = Settles l.ends l.sets l.levels l.level l.settled.items
