-- the places passed have level 0
use Rattle.std.proofs.Common.{◌≡◌, ℕ, length, get_or}
use Rattle.stable_search.proofs.following.no_levels.Given as goal

abbrev pub invariant-loop-place : goal.invariant-loop-place
invariant-loop-place l = (length l.levels.items ≡ l._place) × ((place : ℕ) → get_or l.levels.items place 0 ≡ 0)
