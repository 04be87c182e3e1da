-- the rounds so far narrow what the sets were
use Rattle.stable_search.specs.Picks.{Narrows}
use Rattle.stable_search.proofs.narrowing.narrow_all.Given as goal

abbrev pub invariant-loop-round : goal.invariant-loop-round
invariant-loop-round l = Narrows l.ways l.fn.sets l.sets
