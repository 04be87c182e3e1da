-- none of those so far
use Rattle.std.proofs.Common.{◌≡◌, ℕ, length, get_or, None}
use Rattle.stable_search.proofs.fixing.none_yet.Given as goal

abbrev pub invariant-loop-place : goal.invariant-loop-place
invariant-loop-place l = (length l.fixed.items ≡ l._place) × ((place : ℕ) → get_or l.fixed.items place None ≡ None)
