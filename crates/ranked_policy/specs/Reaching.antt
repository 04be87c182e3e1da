-- Which routers are marked as reached from the first, place by place.
use Rattle.std.specs.Prelude.{ℕ, ◌≡◌, ◌<◌, Bool, true, false, List, length, slice_index, slice_index_or}
use Rattle.std.specs.List.{All}
use Rattle.ranked_policy.specs.declared.network.NetRouter.{NetRouter}
use Rattle.ranked_policy.specs.declared.network.Link.{Link}
use Rattle.ranked_policy.specs.Plans.{numbers, Linked}

-- at this place stands the router u
abbrev pub StandsAt : List NetRouter → ℕ → ℕ → Type 0
StandsAt routers k u = (k < length routers) × (slice_index (numbers routers) k ≡ u)

abbrev pub IsMarked : List Bool → ℕ → Type 0
IsMarked reached k = slice_index_or reached k false ≡ true

-- a link leads from a marked router to the one at this place, which is not marked
abbrev pub LeadsTo : List NetRouter → List Link → List Bool → ℕ → Type 0
LeadsTo routers links reached k =
    (k < length routers) × (slice_index_or reached k false ≡ false)
    × ((j : ℕ) × (j < length routers) × IsMarked reached j
    × Linked links (slice_index (numbers routers) j) (slice_index (numbers routers) k))

-- of each link both ends are marked, or neither is
abbrev pub IsClosed : List NetRouter → List Link → List Bool → Type 0
IsClosed routers links reached =
    All (λ link. (i j : ℕ) × StandsAt routers i link.one × StandsAt routers j link.other
    × (slice_index_or reached i false ≡ slice_index_or reached j false)) links
