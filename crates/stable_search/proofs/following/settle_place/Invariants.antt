-- where each settled value comes is known
use Rattle.std.proofs.Common.{get_or}
use Rattle.stable_search.specs.Following.{Settles}
use Rattle.stable_search.proofs.following.settle_place.Given as goal

abbrev pub invariant-loop-value : goal.invariant-loop-value
invariant-loop-value l = Settles l.ends l.sets l.levels (get_or l.levels l.place 0) l.settled.items
