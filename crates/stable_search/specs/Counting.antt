-- How many stable assignments there are.
use Rattle.std.specs.Prelude.{ℕ, ◌≡◌, ◌≢◌, ◌↔◌, ◌<◌, Bool, false, not, List, [], filter, length, map}
use Rattle.std.specs.List.{All, AllPairs, Contains}
use Rattle.ranked_policy.specs.Plans.{IsRouter}
use Rattle.stable_paths.specs.Stable.{Problem, IsProblem, IsStable}
use Rattle.stable_search.specs.declared.every.Component.{Component}
use Rattle.stable_search.specs.declared.every.Every.{Every}
use Rattle.stable_search.specs.Every.{choices_of, number_of, IsEveryStable}

-- what the routers of each part have
abbrev pub what_all_have : (ℕ → List ℕ) → List Component → List (List (List ℕ))
what_all_have paths parts = map (λ part. map paths part.routers) parts

-- a part that doesn't follow
abbrev pub leads : Component → Bool
leads part = not part.follows

-- combinations of choices of the parts that don't follow, as many as the product of the numbers of choices, none listed
-- twice; each is what the routers of these parts have in a stable assignment, and what they have in each stable
-- assignment is one of them; two stable assignments in which they have the same are one
pub record AreCounted (p : Problem) (parts : List Component) (found : List (List (List (List ℕ)))) : Type 0 where
  pub count : length found ≡ number_of parts
  pub once : AllPairs (λ one other. one ≢ other) found
  pub each : All (λ one. (paths : ℕ → List ℕ) × IsStable p paths × (one ≡ what_all_have paths (filter leads parts))) found
  pub all : (paths : ℕ → List ℕ) → IsStable p paths → Contains found (what_all_have paths (filter leads parts))
  pub decided : (one other : ℕ → List ℕ) → IsStable p one → IsStable p other
      → what_all_have one (filter leads parts) ≡ what_all_have other (filter leads parts)
      → (u : ℕ) → IsRouter p.net.routers u → one u ≡ other u

-- the number of stable assignments is the product of the numbers of choices
abbrev pub StableAreCounted : Type 0
StableAreCounted =
    (p : Problem) (every : Every) → IsEveryStable p every → (found : List (List (List (List ℕ)))) × AreCounted p every.parts found

-- a part without a choice has two routers or more
abbrev pub SeveralHaveNone : Type 0
SeveralHaveNone =
    (p : Problem) → IsProblem p → (every : Every) → IsEveryStable p every
    → All (λ part. length (choices_of part) ≡ 0 → 1 < length part.routers) every.parts

-- if nobody originates the prefix, one assignment is stable: no router has a path
abbrev pub NoneWithoutOrigin : Type 0
NoneWithoutOrigin =
    (p : Problem) → IsProblem p → p.originated ≡ false → (paths : ℕ → List ℕ)
    → (IsStable p paths ↔ ((u : ℕ) → IsRouter p.net.routers u → paths u ≡ []))
