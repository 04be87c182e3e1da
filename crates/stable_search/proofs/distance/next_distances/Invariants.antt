-- the next distances of the places passed
use Rattle.std.proofs.Common.{◌≡◌, ◌<◌, ℕ, length, get_or}
use Rattle.stable_search.specs.Fixing.{IsNear}
use Rattle.stable_search.specs.Seats.{StandsAt}
use Rattle.stable_search.specs.declared.chooser.Chooser.{Chooser}
use Rattle.stable_search.proofs.distance.next_distances.Given as goal

abbrev pub invariant-loop-place : goal.invariant-loop-place
invariant-loop-place l =
    (length l.next.items ≡ l.place)
    × ((place : ℕ) (it : Chooser) → place < l.place → StandsAt l.choosers place it
    → IsNear l.instance.net.links l.choosers l.distances it l.distance (get_or l.distances place 0) (get_or l.next.items place 0))
