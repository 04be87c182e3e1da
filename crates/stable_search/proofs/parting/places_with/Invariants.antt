-- the places passed that have the label
use Rattle.std.proofs.Common.{◌≡◌, ◌<◌, ℕ, get_or}
use Rattle.std.specs.Prelude.{◌↔◌}
use Rattle.std.specs.List.{AllPairs, Contains}
use Rattle.stable_search.proofs.parting.places_with.Given as goal

abbrev pub invariant-loop-place : goal.invariant-loop-place
invariant-loop-place l =
    ((place : ℕ) → (Contains l.places.items place ↔ (place < l.place) × (get_or l.labels place 0 ≡ l.label)))
    × AllPairs (λ place later. place < later) l.places.items
