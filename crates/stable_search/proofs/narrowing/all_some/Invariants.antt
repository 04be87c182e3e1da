-- each set passed has a value
use Rattle.std.proofs.Common.{◌<◌, ℕ, get_or}
use Rattle.stable_search.specs.Picks.{Has}
use Rattle.stable_search.proofs.narrowing.all_some.Given as goal

abbrev pub invariant-loop-set : goal.invariant-loop-set
invariant-loop-set l = (k : ℕ) → k < l.set-index → (value : ℕ) × Has (get_or l.sets k 0) value
