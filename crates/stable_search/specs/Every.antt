-- All stable assignments, part by part.
use Rattle.std.specs.Prelude.{ℕ, ◌≡◌, ◌≢◌, ◌<◌, ◌≤◌, ◌*◌, ◌^◌, ◌↔◌, true, false, if◌then◌else◌, List, [], ◌∷◌, Option, Some, None, length, map, slice_index, slice_index_or}
use Rattle.std.specs.List.{All, AllPairs, Any, Contains}
use Rattle.ranked_policy.specs.Plans.{IsRouter, Linked}
use Rattle.ranked_policy.specs.Policies.{Table, IsTableOf, Originates}
use Rattle.stable_paths.specs.Stable.{Problem, IsStable}
use Rattle.stable_search.specs.declared.every.Component.{Component}
use Rattle.stable_search.specs.declared.every.Every.{Every}
use Rattle.stable_search.specs.Fits.{MayStand, FitsAt, FitTogether}

-- the paths that a pick stands for: of each router's paths the one at its place
abbrev pub picked_paths : List (List (List ℕ)) → List ℕ → List (List ℕ)
picked_paths [] pick = []
picked_paths (paths ∷ values) [] = []
picked_paths (paths ∷ values) (place ∷ pick) = slice_index_or paths place [] ∷ picked_paths values pick

-- the choices of a part: the paths of each of its picks
abbrev pub choices_of : Component → List (List (List ℕ))
choices_of part = map (picked_paths part.values) part.picks

-- the path that a choice of the part has for a router, by their places
abbrev pub IsPathAt : Component → ℕ → ℕ → List ℕ → Type 0
IsPathAt part choice router path =
    (choice < length (choices_of part))
    × (router < length (slice_index_or (choices_of part) choice []))
    × (path ≡ slice_index_or (slice_index_or (choices_of part) choice []) router [])

-- for each router a place among its paths
pub record ArePlacesIn (values : List (List (List ℕ))) (pick : List ℕ) : Type 0 where
  pub size : length pick ≡ length values
  pub each : (k : ℕ) → k < length values → slice_index pick k < length (slice_index_or values k [])

-- the routers of the part have one of its choices
abbrev pub HasChoice : (ℕ → List ℕ) → Component → Type 0
HasChoice paths part = Contains (choices_of part) (map paths part.routers)

-- routers, rising, with choices of a path for each, none listed twice; a part that follows is one router with several
pub record IsPart (part : Component) : Type 0 where
  pub some : 0 < length part.routers
  pub rising : AllPairs (λ u v. u < v) part.routers
  pub values : length part.values ≡ length part.routers
  pub picks : All (ArePlacesIn part.values) part.picks
  pub whole : All (λ choice. length choice ≡ length part.routers) (choices_of part)
  pub once : AllPairs (λ choice later. choice ≢ later) (choices_of part)
  pub alone : part.follows ≡ true → (length part.routers ≡ 1) × (1 < length (choices_of part))

-- the parts that don't follow have one of their choices
abbrev pub HaveChoices : (ℕ → List ℕ) → List Component → Type 0
HaveChoices paths parts = All (λ part. part.follows ≡ false → HasChoice paths part) parts

-- the routers of the parts that don't follow have the same paths in both
abbrev pub Agree : (ℕ → List ℕ) → (ℕ → List ℕ) → List Component → Type 0
Agree paths others parts = All (λ part. part.follows ≡ false → map paths part.routers ≡ map others part.routers) parts

-- the choices of the part are the paths, out of these of each router, that fit together
abbrev pub AreChoices : Problem → (ℕ → List (List ℕ)) → Component → Type 0
AreChoices p may part =
    (paths : ℕ → List ℕ) → (HasChoice paths part
    ↔ ((u : ℕ) → Contains part.routers u → Contains (may u) (paths u)) × FitTogether p part.routers paths)

-- a router of a part that has no choice or several, and doesn't follow
abbrev pub Disputes : List Component → ℕ → Type 0
Disputes parts u = Any (λ part. (part.follows ≡ false) × (length (choices_of part) ≢ 1) × Contains part.routers u) parts

-- the router of a part that follows
abbrev pub Trails : List Component → ℕ → Type 0
Trails parts u = Any (λ part. (part.follows ≡ true) × Contains part.routers u) parts

-- of each router some paths that it may have, at least one, among which is its path in each stable assignment: the
-- choices of each part are those of them that fit together; to a router in dispute it doesn't matter which of its paths a
-- peer has that follows
pub record ChooseAmong (p : Problem) (parts : List Component) : Type 0 where
  pub may : ℕ → List (List ℕ)
  pub some : (u : ℕ) → IsRouter p.net.routers u → 0 < length (may u)
  pub stand : (u : ℕ) → IsRouter p.net.routers u
      → (table : Table) × IsTableOf p.net u table × All (MayStand p.net.links p.prefix table) (may u)
  pub has : (paths : ℕ → List ℕ) → IsStable p paths → (u : ℕ) → IsRouter p.net.routers u → Contains (may u) (paths u)
  pub choices : All (AreChoices p may) parts
  pub unmoved : (u v : ℕ) → Disputes parts u → Trails parts v → Linked p.net.links u v
      → (table : Table) → IsTableOf p.net u table → (Originates table p.prefix table.router → ⊥)
      → (path theirs : List ℕ) → Contains (may u) path → Contains (may v) theirs → FitsAt table p.prefix v path theirs

-- a stable assignment has one of the choices of each part, and any choices of the parts that don't follow are had in
-- exactly one; each router is in one part; parts stand by their least routers
pub record IsEveryStable (p : Problem) (every : Every) : Type 0 where
  pub listed : (paths : ℕ → List ℕ) → IsStable p paths → All (HasChoice paths) every.parts
  pub whole : (paths : ℕ → List ℕ) → HaveChoices paths every.parts
      → (stable : ℕ → List ℕ) × IsStable p stable × Agree stable paths every.parts
  pub decided : (one other : ℕ → List ℕ) → IsStable p one → IsStable p other → Agree one other every.parts
      → (u : ℕ) → IsRouter p.net.routers u → one u ≡ other u
  pub parts : All IsPart every.parts
  pub routers : (u : ℕ) → (IsRouter p.net.routers u ↔ Any (λ part. Contains part.routers u) every.parts)
  pub apart : AllPairs (λ part later. (u : ℕ) → Contains part.routers u → Contains later.routers u → ⊥) every.parts
  pub order : AllPairs (λ part later. slice_index part.routers 0 < slice_index later.routers 0) every.parts
  -- a part follows only where one that doesn't has no choice or several
  pub needed : Any (λ part. part.follows ≡ true) every.parts
      → Any (λ part. (part.follows ≡ false) × (length (choices_of part) ≢ 1)) every.parts
  -- also where none is stable
  pub among : ChooseAmong p every.parts

-- the number of choices of a part; 1 if it follows
abbrev pub factor_of : Component → ℕ
factor_of part = if part.follows then 1 else length (choices_of part)

-- the product of the numbers of choices of the parts that don't follow
abbrev pub number_of : List Component → ℕ
number_of [] = 1
number_of (part ∷ parts) = factor_of part * number_of parts

-- a number that fits a word of 64 bits, or none for one that doesn't
abbrev pub IsCount : ℕ → Option ℕ → Type 0
IsCount number None = 2 ^ 64 ≤ number
IsCount number (Some count) = count ≡ number
