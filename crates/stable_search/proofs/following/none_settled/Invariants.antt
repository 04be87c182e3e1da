-- no value is settled of the places passed
use Rattle.std.proofs.Common.{◌≡◌, ℕ, length, get_or}
use Rattle.stable_search.proofs.following.none_settled.Given as goal

abbrev pub invariant-loop-place : goal.invariant-loop-place
invariant-loop-place l = (length l.settled.items ≡ l._place) × ((place : ℕ) → get_or l.settled.items place 0 ≡ 0)
