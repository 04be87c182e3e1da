-- Stable path assignments for one prefix (Griffin, Shepherd and Wilfong 2002, section 2).
use Rattle.std.specs.Prelude.{ℕ, ◌≡◌, ◌==◌, Bool, true, List, [], ◌∷◌, if◌then◌else◌}
use mathlib.Core.Logic.{◌⊎◌}
use Rattle.prefix_lanes.specs.Bits.{PrefixView}
use Rattle.ranked_policy.specs.Plans.{Plan, IsNetwork, IsRouter, IsNamed}
use Rattle.ranked_policy.specs.Policies.{Table, IsTableOf, Originates, IsPermitted}
use Rattle.ranked_policy.specs.Choices.{HasPathOver, IsFirstOrNone}
use Rattle.stable_paths.specs.declared.assignment.Assigned.{Assigned}

-- a prefix of a network, and whether its origin originates it
pub record Problem : Type 0 where
  pub net : Plan
  pub prefix : PrefixView
  pub originated : Bool

pub record IsProblem (p : Problem) : Type 0 where
  pub network : IsNetwork p.net
  pub named : IsNamed p.net.origins p.prefix

-- a problem whose origin originates the prefix
pub record IsInstance (p : Problem) : Type 0 where
  pub problem : IsProblem p
  pub originated : p.originated ≡ true

-- the path of a router in a list of them; the empty path if it has none
abbrev pub path_of : List Assigned → ℕ → List ℕ
path_of [] u = []
path_of (a ∷ rest) u = if a.router == u then a.path else path_of rest u

-- the path of the origin: itself alone if it originates the prefix, else the empty path
abbrev pub own_path : Problem → ℕ → List ℕ
own_path p router = if p.originated then router ∷ [] else []

-- the best of a router's choices; an origin has its own path
abbrev pub IsBestOf : Problem → (ℕ → List ℕ) → Table → List ℕ → Type 0
IsBestOf p paths table path =
    (Originates table p.prefix table.router × (path ≡ own_path p table.router))
    ⊎ ((Originates table p.prefix table.router → ⊥) × IsFirstOrNone (HasPathOver p.net.links paths table.router) table p.prefix path)

abbrev pub IsBest : Problem → (ℕ → List ℕ) → ℕ → List ℕ → Type 0
IsBest p paths u path = (table : Table) × IsTableOf p.net u table × IsBestOf p paths table path

-- an assignment is stable where each router has the best of its choices
abbrev pub IsStable : Problem → (ℕ → List ℕ) → Type 0
IsStable p paths = (u : ℕ) → IsRouter p.net.routers u → IsBest p paths u (paths u)

-- a router may have the empty path, or one that it permits
abbrev pub MayHave : Plan → PrefixView → ℕ → List ℕ → Type 0
MayHave net prefix u path = (path ≡ []) ⊎ ((table : Table) × IsTableOf net u table × IsPermitted table prefix path)
