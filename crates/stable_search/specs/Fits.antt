-- Stable assignments as a relation of two over each link (Griffin, Shepherd and Wilfong 2002, section 2).
use Rattle.std.specs.Prelude.{ℕ, ◌≡◌, ◌≢◌, ◌↔◌, List, [], ◌∷◌}
use Rattle.std.specs.List.{Contains}
use mathlib.Core.Logic.{◌⊎◌}
use Rattle.prefix_lanes.specs.Bits.{PrefixView}
use Rattle.ranked_policy.specs.declared.network.Link.{Link}
use Rattle.ranked_policy.specs.Plans.{IsRouter, Linked}
use Rattle.ranked_policy.specs.Policies.{Table, IsTableOf, Originates, IsPermitted, IsPreferred}
use Rattle.stable_paths.specs.Stable.{Problem, IsInstance, IsStable}

-- the path goes on from u over a peer of it
pub record GoesOver (links : List Link) (u : ℕ) (path : List ℕ) : Type 0 where
  pub peer : ℕ
  pub rest : List ℕ
  pub linked : Linked links u peer
  pub whole : path ≡ u ∷ peer ∷ rest

-- what a router may have in a stable assignment: an origin itself alone; another router no path, or one that it permits
-- and that goes on over a peer
abbrev pub MayStand : List Link → PrefixView → Table → List ℕ → Type 0
MayStand links q table path =
    (Originates table q table.router × (path ≡ table.router ∷ []))
    ⊎ ((Originates table q table.router → ⊥) × ((path ≡ []) ⊎ (IsPermitted table q path
    × GoesOver links table.router path)))

-- a router's path and its peer v's path fit at the router: a path over v goes on by v's path; if the router permits the
-- path along v's and has another, it prefers its own, which is not empty
pub record FitsAt (table : Table) (q : PrefixView) (v : ℕ) (path theirs : List ℕ) : Type 0 where
  pub over : (rest : List ℕ) → path ≡ table.router ∷ v ∷ rest → path ≡ table.router ∷ theirs
  pub best : IsPermitted table q (table.router ∷ theirs) → path ≢ table.router ∷ theirs
      → (path ≢ []) × IsPreferred table q path (table.router ∷ theirs)

-- a router has what it may have, and it fits what each peer has; an origin fits all
pub record FitsPeers (p : Problem) (paths : ℕ → List ℕ) (table : Table) : Type 0 where
  pub may : MayStand p.net.links p.prefix table (paths table.router)
  pub fits : (v : ℕ) → Linked p.net.links table.router v → (Originates table p.prefix table.router → ⊥)
      → FitsAt table p.prefix v (paths table.router) (paths v)

abbrev pub IsFitting : Problem → (ℕ → List ℕ) → Type 0
IsFitting p paths = (u : ℕ) → IsRouter p.net.routers u → (table : Table) × IsTableOf p.net u table
    × FitsPeers p paths table

-- the router of a table has what it may have, and it fits what each peer among these routers has; an origin fits all
pub record FitsAmong (p : Problem) (routers : List ℕ) (paths : ℕ → List ℕ) (table : Table) : Type 0 where
  pub may : MayStand p.net.links p.prefix table (paths table.router)
  pub fits : (v : ℕ) → Contains routers v → Linked p.net.links table.router v → (Originates table p.prefix table.router → ⊥)
      → FitsAt table p.prefix v (paths table.router) (paths v)

-- each of these routers has what it may have, and it fits what its peers among them have; nothing is asked of other
-- routers
abbrev pub FitTogether : Problem → List ℕ → (ℕ → List ℕ) → Type 0
FitTogether p routers paths =
    (u : ℕ) → Contains routers u → (table : Table) × IsTableOf p.net u table × FitsAmong p routers paths table

-- if the prefix is originated, the stable assignments are those that fit
abbrev pub StableIsFitting : Type 0
StableIsFitting = (p : Problem) → IsInstance p → (paths : ℕ → List ℕ) → (IsStable p paths ↔ IsFitting p paths)
