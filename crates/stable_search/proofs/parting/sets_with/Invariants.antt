-- the sets of the places passed
use Rattle.std.proofs.Common.{◌≡◌, ◌<◌, ◌==◌, ℕ, cond, length, get_or}
use Rattle.stable_search.proofs.parting.sets_with.Given as goal

abbrev pub invariant-loop-place : goal.invariant-loop-place
invariant-loop-place l =
    (length l.part.items ≡ l.place)
    × ((k : ℕ) → k < l.place → get_or l.part.items k 0 ≡ cond (get_or l.labels k 0 == l.label) (get_or l.sets k 0) 1)
