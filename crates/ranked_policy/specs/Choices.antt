-- The best of a router's choices (RFC 4271 section 9.1.2; Griffin, Shepherd and Wilfong 2002, section 2).
use Rattle.std.specs.Prelude.{ℕ, ◌≡◌, ◌≢◌, ◌↔◌, List, [], ◌∷◌}
use mathlib.Core.Logic.{◌⊎◌}
use Rattle.prefix_lanes.specs.Bits.{PrefixView}
use Rattle.ranked_policy.specs.declared.network.Link.{Link}
use Rattle.ranked_policy.specs.declared.policy.Chosen.{Chosen}
use Rattle.ranked_policy.specs.Plans.{Linked}
use Rattle.ranked_policy.specs.Policies.{Table, IsPermitted, IsPreferred}
use Rattle.ranked_policy.specs.Choosing.{chosen_permits, chosen_prefers}

-- a choice: the router, then a path that is heard from a peer; that path is not empty, and the whole is permitted
pub record IsChoice (Heard : ℕ → List ℕ → Type 0) (table : Table) (q : PrefixView) (path : List ℕ) : Type 0 where
  pub peer : ℕ
  pub rest : List ℕ
  pub heard : Heard peer rest
  pub some : rest ≢ []
  pub goes_on : path ≡ table.router ∷ rest
  pub permitted : IsPermitted table q path

-- the path is a choice, and is preferred to each other choice
pub record IsFirst (Heard : ℕ → List ℕ → Type 0) (table : Table) (q : PrefixView) (path : List ℕ) : Type 0 where
  pub choice : IsChoice Heard table q path
  pub before : (other : List ℕ) → IsChoice Heard table q other → path ≢ other → IsPreferred table q path other

-- the first of the choices, or the empty path if there is no choice
abbrev pub IsFirstOrNone : (ℕ → List ℕ → Type 0) → Table → PrefixView → List ℕ → Type 0
IsFirstOrNone Heard table q path =
    IsFirst Heard table q path ⊎ ((path ≡ []) × ((other : List ℕ) → IsChoice Heard table q other → ⊥))

-- where each router has a path: a router hears that of each peer over these links
abbrev pub HasPathOver : List Link → (ℕ → List ℕ) → ℕ → ℕ → List ℕ → Type 0
HasPathOver links paths u v path = Linked links u v × (path ≡ paths v)

-- for a prefix, a policy of the code permits and prefers the same paths as the router of a table
pub record Speaks (policy : Chosen) (table : Table) (q : PrefixView) : Type 0 where
  pub permits : (path : List ℕ) → (chosen_permits policy path ↔ IsPermitted table q path)
  pub prefers : (a b : List ℕ) → (chosen_prefers policy a b ↔ IsPreferred table q a b)

-- ---- ways: paths without the router in front

-- the path of a router along a way; the empty way gives the empty path
abbrev pub path_by : ℕ → List ℕ → List ℕ
path_by router [] = []
path_by router (v ∷ rest) = router ∷ v ∷ rest

-- the path along a way is permitted, and preferred to that along another; an empty other way is none
abbrev pub IsTaken : Chosen → ℕ → List ℕ → List ℕ → Type 0
IsTaken policy router way best =
    chosen_permits policy (router ∷ way) × ((best ≡ []) ⊎ chosen_prefers policy (router ∷ way) (router ∷ best))

-- the better of two ways: the new one if it is not empty and is taken, else the best so far
abbrev pub IsBetterWay : Chosen → ℕ → List ℕ → List ℕ → List ℕ → Type 0
IsBetterWay policy router way best better =
    ((way ≢ []) × IsTaken policy router way best × (better ≡ way))
    ⊎ ((way ≢ [] → IsTaken policy router way best → ⊥) × (better ≡ best))
