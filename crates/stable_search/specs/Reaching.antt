-- How many routers a router's path has at most in a stable assignment, where it surely has one.
use Rattle.std.specs.Prelude.{ℕ, ◌≡◌, ◌<◌, ◌≤◌, ◌+◌, List, IsTrue, Option, Some, None, length, slice_index, slice_index_or}
use Rattle.std.specs.List.{All}
use mathlib.Core.Logic.{◌⊎◌}
use Rattle.ranked_policy.specs.declared.limits.TheConstants.{LONGEST_PATH}
use Rattle.ranked_policy.specs.declared.network.Link.{Link}
use Rattle.ranked_policy.specs.declared.policy.Chosen.{Chosen}
use Rattle.ranked_policy.specs.declared.policy.Chosen.TheVariants.{Only, Ranked, Shortest}
use Rattle.ranked_policy.specs.Paths.{EndsWith}
use Rattle.ranked_policy.specs.Plans.{Linked, numbers}
use Rattle.stable_paths.specs.Stable.{Problem, IsStable}
use Rattle.stable_search.specs.Fixing.{IsOfferAt}
use Rattle.stable_search.specs.Seats.{StandsAt}
use Rattle.stable_search.specs.declared.chooser.Chooser.{Chooser}

-- in each stable assignment the router has a path to the origin, of at most so many routers
abbrev pub Reaches : Problem → ℕ → ℕ → ℕ → Type 0
Reaches p origin u most =
    (paths : ℕ → List ℕ) → IsStable p paths → (length (paths u) ≤ most) × EndsWith (paths u) origin

-- for each router, how many routers its path has at most; more than the longest path has where that isn't known
pub record AreReaches (p : Problem) (choosers : List Chooser) (origin : ℕ) (reaches : List ℕ) : Type 0 where
  pub size : length reaches ≡ length choosers
  pub each : (place : ℕ) (it : Chooser) → StandsAt choosers place it → slice_index reaches place ≤ LONGEST_PATH
      → Reaches p origin it.router (slice_index reaches place)

-- the policy of a rule, for the prefix of this origin, whose paths have at most so many routers
abbrev pub IsRankedTo : Chosen → ℕ → ℕ → Type 0
IsRankedTo (Only only) origin most = ⊥
IsRankedTo (Ranked rule) origin most = (rule.origin ≡ Some origin) × All (λ path. length path ≤ most) rule.paths.now
IsRankedTo (Shortest all) origin most = ⊥

-- a path of a rule is surely offered, and no path of the rule has more than so many routers
pub record IsRuled (links : List Link) (choosers : List Chooser) (fixed : List (Option (List ℕ))) (origin : ℕ) (it : Chooser) (most : ℕ) : Type 0 where
  pub other : IsTrue it.is_origin → ⊥
  pub place : ℕ
  pub offer : IsOfferAt links choosers fixed it place
  pub ranked : IsRankedTo it.policy origin most

-- the router is fixed and has a path to the origin, or a path of its rule is surely offered; or nothing is known
abbrev pub IsFirstReach : List Link → List Chooser → List (Option (List ℕ)) → ℕ → ℕ → Chooser → ℕ → Type 0
IsFirstReach links choosers fixed origin place it reach =
    (LONGEST_PATH < reach)
    ⊎ (((path : List ℕ) × (slice_index_or fixed place None ≡ Some path) × EndsWith path origin × (reach ≡ length path))
    ⊎ IsRuled links choosers fixed origin it reach)

-- the policy of a router without a rule, for the prefix of this origin
abbrev pub IsShortestTo : Chosen → ℕ → ℕ → Type 0
IsShortestTo (Only only) u origin = ⊥
IsShortestTo (Ranked rule) u origin = ⊥
IsShortestTo (Shortest all) u origin = (all.router ≡ u) × (all.origin ≡ Some origin)

-- one router more than a peer's path has at most
pub record IsOnOver (links : List Link) (choosers : List Chooser) (origin : ℕ) (reaches : List ℕ) (it : Chooser) (next : ℕ) : Type 0 where
  pub place : ℕ
  pub peer : Chooser
  pub at : StandsAt choosers place peer
  pub linked : Linked links it.router peer.router
  pub other : IsTrue it.is_origin → ⊥
  pub shortest : IsShortestTo it.policy it.router origin
  pub one_more : next ≡ slice_index reaches place + 1

-- what is known of a router stays, or a path over a peer is surely offered; or nothing is known
abbrev pub IsNextReach : List Link → List Chooser → ℕ → List ℕ → Chooser → ℕ → ℕ → Type 0
IsNextReach links choosers origin reaches it known next =
    (next ≡ known) ⊎ ((LONGEST_PATH < next) ⊎ IsOnOver links choosers origin reaches it next)

-- by the places of the routers, how many routers a path has at most, if that is no more than the longest path has
pub record AreBounds (p : Problem) (bounds : List ℕ) : Type 0 where
  pub size : length bounds ≡ length (numbers p.net.routers)
  pub each : (place : ℕ) → place < length (numbers p.net.routers) → slice_index bounds place ≤ LONGEST_PATH
      → (paths : ℕ → List ℕ) → IsStable p paths
      → length (paths (slice_index (numbers p.net.routers) place)) ≤ slice_index bounds place
