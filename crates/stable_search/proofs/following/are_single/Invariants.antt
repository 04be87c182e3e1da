-- each set passed has one value
use Rattle.std.proofs.Common.{◌<◌, ℕ, get_or}
use Rattle.stable_search.specs.Picks.{IsOnly}
use Rattle.stable_search.proofs.following.are_single.Given as goal

abbrev pub invariant-loop-set : goal.invariant-loop-set
invariant-loop-set l = (k : ℕ) → k < l.set-index → (value : ℕ) × IsOnly (get_or l.sets k 0) value
