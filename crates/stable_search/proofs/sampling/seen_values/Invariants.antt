-- the values that picks have at the places passed are marked
use Rattle.std.proofs.Common.{◌≡◌, ◌<◌, ℕ, length, get_or}
use Rattle.stable_search.specs.Picks.{Sees}
use Rattle.stable_search.proofs.sampling.seen_values.Given as goal

abbrev pub invariant-loop-place : goal.invariant-loop-place
invariant-loop-place l =
    (length l.seen.items ≡ length l.sets) × ((k : ℕ) → k < l.place-index → Sees l.ways l.sets (get_or l.places k 0) l.seen.items)
