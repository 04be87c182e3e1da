-- the sets are narrowed
use Rattle.std.proofs.Common.{◌≡◌, length}
use Rattle.stable_search.specs.Picks.{AllSome, Narrows}
use Rattle.stable_search.proofs.sampling.keep_possible.Given as goal

abbrev pub invariant-loop-label : goal.invariant-loop-label
invariant-loop-label l = (length l.sets ≡ length l.fn.sets) × Narrows l.ways l.fn.sets l.sets
    × (AllSome l.fn.sets → AllSome l.sets)
