-- first each place has itself; then the ways passed join places with one label
use Rattle.std.proofs.Common.{◌≡◌, ◌<◌, ℕ, length, take, get_or}
use Rattle.stable_search.specs.Parting.{AreLabels}
use Rattle.stable_search.proofs.parting.labels_of.Given as goal

abbrev pub invariant-loop-place : goal.invariant-loop-place
invariant-loop-place l = (length l.labels.items ≡ l.place) × ((k : ℕ) → k < l.place → get_or l.labels.items k 0 ≡ k)

abbrev pub invariant-loop-way : goal.invariant-loop-way
invariant-loop-way l = AreLabels l.sets (take l.way-index l.ways) l.labels.items
