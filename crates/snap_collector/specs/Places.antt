-- The table that finds the offers of routers. Its search is one function of a router. No more is asked of it, since
-- what it finds is looked at.
use Rattle.std.specs.Prelude.{ℕ, ◌≡◌, ◌<◌, ◌+◌, cond, nat_le, List, length, get_or}
use Rattle.snap_marker.specs.declared.part.Offer.{Offer}
use Rattle.snap_marker.specs.Parts as parts

abbrev pub stepped : List ℕ → ℕ → ℕ → ℕ → ℕ
stepped routers u slot step = cond (nat_le (get_or routers (slot + step) 0) u) (slot + step) slot

-- the search: six steps, each half as far as the one before
abbrev pub slot_of : List ℕ → ℕ → ℕ
slot_of routers u = stepped routers u (stepped routers u (stepped routers u (stepped routers u (stepped routers u (stepped routers u 0 32) 16) 8) 4) 2) 1

-- the place to which a table leads a router
abbrev pub place_of : List ℕ → List ℕ → ℕ → ℕ
place_of routers places u = get_or places (slot_of routers u) 0

-- the router of each offer leads to the place of that offer: no two offers are of one router
abbrev pub LeadTo : List ℕ → List ℕ → List Offer → Type 0
LeadTo routers places offers = (j : ℕ) (o : Offer) → j < length offers → o ≡ get_or offers j o → place_of routers places (parts.router_of o) ≡ j
