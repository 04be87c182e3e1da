-- the router of each offer so far leads to its place
use Rattle.std.proofs.Common.{◌≡◌, ◌-◌, ◌<◌, ◌≤◌, ℕ, length}
use Rattle.std.specs.Prelude.{get_or}
use Rattle.snap_marker.specs.declared.part.Offer.{Offer}
use Rattle.snap_marker.specs.Parts.{router_of}
use Rattle.snap_collector.specs.Places.{place_of}
use Rattle.snap_collector.proofs.part_index.places_of.Given as goal

abbrev pub invariant-loop-place : goal.invariant-loop-place
invariant-loop-place l = record {
  room : length l.places ≡ 64;
  inside : l.place ≤ l.count;
  led : (j : ℕ) (o : Offer) → j < l.place → o ≡ get_or l.offers j o → place_of l.routers l.places (router_of o) ≡ j;
}

abbrev pub decreases-loop-place : goal.decreases-loop-place
decreases-loop-place l = l.count - l.place
