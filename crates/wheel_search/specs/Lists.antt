-- The feasible paths of each router, the shorter first, as they are made from those of its peers.
use Rattle.std.specs.Prelude.{ℕ, zero, suc, ◌≡◌, ◌↔◌, ◌<◌, cond, List, [], ◌∷◌, ◌++◌, length, map, slice_index, slice_index_or}
use Rattle.std.specs.List.{flat_map}
use mathlib.Core.Logic.{◌⊎◌}
use Rattle.prefix_lanes.specs.Bits.{PrefixView}
use Rattle.ranked_policy.specs.Plans.{Plan, Linked, numbers}
use Rattle.ranked_policy.specs.Policies.{Table, IsTableOf, IsPermitted}
use Rattle.ranked_policy.specs.Choosing.{chosen_permits}
use Rattle.ranked_policy.specs.declared.policy.Chosen.{Chosen}
use Rattle.stable_paths.specs.Stable.{Problem}
use Rattle.dispute_wheels.specs.Feasible.{IsFeasible}
use Rattle.dispute_wheels.specs.Tests.{is_feasible}

-- the path of a router that goes on by this rest, if it is feasible
abbrev pub kept : Plan → PrefixView → ℕ → List ℕ → List (List ℕ)
kept net q u rest = cond (is_feasible net q (u ∷ rest)) ((u ∷ rest) ∷ []) []

abbrev pub onward : Plan → PrefixView → ℕ → List (List ℕ) → List (List ℕ)
onward net q u rests = flat_map (kept net q u) rests

-- the feasible paths of a router over so many others, as in a dictionary
unfoldable pub walks : Plan → PrefixView → ℕ → ℕ → List (List ℕ)
walks net q zero u = kept net q u []
walks net q (suc n) u = flat_map (λ v. onward net q u (walks net q n v)) (numbers net.routers)

-- those of at most so many routers, the shorter first
unfoldable pub walks_to : Plan → PrefixView → ℕ → ℕ → List (List ℕ)
walks_to net q zero u = []
walks_to net q (suc n) u = walks_to net q n u ++ walks net q n u

-- those of each router over so many others, by the routers' numbers
abbrev pub level : Plan → PrefixView → ℕ → List (List (List ℕ))
level net q n = map (walks net q n) (numbers net.routers)

abbrev pub AreLevels : Problem → List (List (List (List ℕ))) → Type 0
AreLevels p levels = (n : ℕ) → n < length levels → slice_index_or levels n [] ≡ level p.net p.prefix n

-- the router at a place
abbrev pub number_at : Problem → ℕ → ℕ
number_at p place = slice_index (numbers p.net.routers) place

-- the policy of a router for the prefix
abbrev pub IsChosen : Problem → ℕ → Chosen → Type 0
IsChosen p u chosen =
    (table : Table) × IsTableOf p.net u table × ((path : List ℕ) → (chosen_permits chosen path ↔ IsPermitted table p.prefix path))

-- a feasible path of a peer, or none: a path of the router can go on by it
abbrev pub IsRest : Problem → ℕ → List ℕ → Type 0
IsRest p u rest =
    (rest ≡ []) ⊎ ((v : ℕ) × (more : List ℕ) × (rest ≡ v ∷ more) × Linked p.net.links u v × IsFeasible p.net p.prefix (v ∷ more))
