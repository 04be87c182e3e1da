-- Routers that have one path in every stable assignment.
use Rattle.std.specs.Prelude.{ℕ, ◌≡◌, ◌≤◌, ◌<◌, ◌+◌, List, [], ◌∷◌, Option, Some, None, IsTrue, length, slice_index, slice_index_or}
use mathlib.Core.Logic.{◌⊎◌}
use Rattle.ranked_policy.specs.declared.limits.TheConstants.{LONGEST_PATH}
use Rattle.ranked_policy.specs.declared.network.Link.{Link}
use Rattle.ranked_policy.specs.declared.policy.Chosen.{Chosen}
use Rattle.ranked_policy.specs.Choosing.{chosen_permits, chosen_prefers}
use Rattle.ranked_policy.specs.Paths.{BeginsWith}
use Rattle.ranked_policy.specs.Plans.{Linked}
use Rattle.stable_paths.specs.Stable.{Problem, IsStable}
use Rattle.stable_search.specs.Choosers.{MayChoose}
use Rattle.stable_search.specs.Seats.{StandsAt, FitsBy}
use Rattle.stable_search.specs.declared.chooser.Chooser.{Chooser}

-- ---- distances

-- in each stable assignment the router has no path, one of at least so many routers, or one of more than the distance
abbrev pub IsFar : Problem → ℕ → ℕ → ℕ → Type 0
IsFar p u distance least =
    (paths : ℕ → List ℕ) → IsStable p paths → (paths u ≡ []) ⊎ ((least ≤ length (paths u)) ⊎ (distance < length (paths u)))

-- for each router, how many routers a path has at least, if that is not more than the distance
pub record AreFar (p : Problem) (choosers : List Chooser) (distance : ℕ) (distances : List ℕ) : Type 0 where
  pub size : length distances ≡ length choosers
  pub low : (place : ℕ) → place < length choosers → slice_index distances place ≤ LONGEST_PATH + 1
  pub each : (place : ℕ) (it : Chooser) → StandsAt choosers place it → IsFar p it.router distance (slice_index distances place)

-- the router is not the origin, and each peer is farther than the distance
pub record IsBeyond (links : List Link) (choosers : List Chooser) (distances : List ℕ) (it : Chooser) (distance : ℕ) : Type 0 where
  pub other : IsTrue it.is_origin → ⊥
  pub peers : (place : ℕ) (peer : Chooser) → StandsAt choosers place peer → Linked links it.router peer.router
      → distance < slice_index distances place

-- a router that is not known to be as near as this has the next distance, or it and its peers are farther
abbrev pub IsNear : List Link → List Chooser → List ℕ → Chooser → ℕ → ℕ → ℕ → Type 0
IsNear links choosers distances it distance known next =
    ((distance < known) × (next ≡ distance + 1))
    ⊎ ((next ≡ known) × (distance < known → IsBeyond links choosers distances it distance))

-- for each router, how many routers a path has at least in a stable assignment
pub record AreDistances (p : Problem) (choosers : List Chooser) (distances : List ℕ) : Type 0 where
  pub size : length distances ≡ length choosers
  pub each : (place : ℕ) (it : Chooser) → StandsAt choosers place it → (paths : ℕ → List ℕ) → IsStable p paths
      → (paths it.router ≡ []) ⊎ (slice_index distances place ≤ length (paths it.router))

-- ---- fixed paths

-- the path is what the router has in every stable assignment, and the router may have it
pub record IsFixed (p : Problem) (it : Chooser) (path : List ℕ) : Type 0 where
  pub always : (paths : ℕ → List ℕ) → IsStable p paths → paths it.router ≡ path
  pub may : MayChoose p.net.links it path

-- for some routers, the path that they have in every stable assignment
pub record AreFixed (p : Problem) (choosers : List Chooser) (fixed : List (Option (List ℕ))) : Type 0 where
  pub size : length fixed ≡ length choosers
  pub each : (place : ℕ) (it : Chooser) (path : List ℕ) → StandsAt choosers place it → slice_index_or fixed place None ≡ Some path
      → IsFixed p it path

-- a path is better than each path over a peer with at least so many routers from the peer on
abbrev pub IsBetterThanAny : Chosen → ℕ → ℕ → List ℕ → ℕ → Type 0
IsBetterThanAny policy router peer path least =
    (rest : List ℕ) → BeginsWith rest peer → least ≤ length rest → chosen_permits policy (router ∷ rest)
    → BeginsWith path router × chosen_prefers policy path (router ∷ rest)

-- a path fits what the peer has: the peer's fixed path, or any of at least so many routers
abbrev pub HoldsOver : Chosen → ℕ → ℕ → List ℕ → Option (List ℕ) → ℕ → Type 0
HoldsOver policy router peer path (Some theirs) least = FitsBy policy router peer path theirs
HoldsOver policy router peer path None least = IsBetterThanAny policy router peer path least

-- a path holds over each peer
abbrev pub HoldsOverAll : List Link → List Chooser → List ℕ → List (Option (List ℕ)) → Chooser → List ℕ → Type 0
HoldsOverAll links choosers distances fixed it path =
    (place : ℕ) (peer : Chooser) → StandsAt choosers place peer → Linked links it.router peer.router
    → HoldsOver it.policy it.router peer.router path (slice_index_or fixed place None) (slice_index distances place)

-- the peer at a place has a fixed path, and the router permits the one over it
pub record IsOfferAt (links : List Link) (choosers : List Chooser) (fixed : List (Option (List ℕ))) (it : Chooser) (place : ℕ) : Type 0 where
  pub peer : Chooser
  pub at : StandsAt choosers place peer
  pub linked : Linked links it.router peer.router
  pub theirs : List ℕ
  pub has : slice_index_or fixed place None ≡ Some theirs
  pub permitted : chosen_permits it.policy (it.router ∷ theirs)

-- no path, or one over a fixed path of a peer
abbrev pub IsOffered : List Link → List Chooser → List (Option (List ℕ)) → Chooser → List ℕ → Type 0
IsOffered links choosers fixed it path =
    (path ≡ []) ⊎ ((place : ℕ) × (offer : IsOfferAt links choosers fixed it place) × (path ≡ it.router ∷ offer.theirs))
