-- places of level 0 alone have another level
use Rattle.stable_search.specs.Following.{IsRaised}
use Rattle.stable_search.proofs.following.raised.Given as goal

abbrev pub invariant-loop-other : goal.invariant-loop-other
invariant-loop-other l = IsRaised l.levels l.level l.raised.items
