-- the ways passed narrow what the sets were
use Rattle.stable_search.specs.Picks.{Narrows}
use Rattle.stable_search.proofs.narrowing.narrow.Given as goal

abbrev pub invariant-loop-way : goal.invariant-loop-way
invariant-loop-way l = Narrows l.ways l.fn.sets l.sets
