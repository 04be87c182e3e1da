-- the same for each so far
use Rattle.std.proofs.Common.{◌≡◌, ◌<◌, ◌+◌, ℕ, length, get_or}
use Rattle.ranked_policy.specs.declared.limits.TheConstants.{LONGEST_PATH}
use Rattle.stable_search.proofs.distance.none_known.Given as goal

abbrev pub invariant-loop-place : goal.invariant-loop-place
invariant-loop-place l = (length l.distances.items ≡ l._place) × ((place : ℕ) → place < l._place → get_or l.distances.items place 0 ≡ LONGEST_PATH + 1)
