-- The paths that routers may have if no rule lists their paths, found by rounds.
use Rattle.std.specs.Prelude.{ℕ, ◌≡◌, ◌≢◌, ◌↔◌, ◌<◌, ◌≤◌, ◌+◌, List, [], ◌∷◌, IsTrue, length, map}
use Rattle.std.specs.List.{All, AllPairs, Contains}
use mathlib.Core.Logic.{◌⊎◌}
use Rattle.ranked_policy.specs.declared.network.Link.{Link}
use Rattle.ranked_policy.specs.declared.policy.Chosen.{Chosen}
use Rattle.ranked_policy.specs.Choosing.{chosen_permits, chosen_prefers}
use Rattle.ranked_policy.specs.Plans.{Linked, numbers}
use Rattle.ranked_policy.specs.Policies.{Table, IsTableOf, Originates}
use Rattle.ranked_policy.specs.Choices.{Speaks}
use Rattle.stable_paths.specs.Stable.{Problem, IsStable}
use Rattle.stable_search.specs.Fits.{GoesOver, MayStand}
use Rattle.stable_search.specs.Seats.{StandsAt}
use Rattle.stable_search.specs.declared.seat.Seat.{Seat}

-- ---- the paths of a rule

-- a router has no path, or one that the policy permits and that goes on over a peer
abbrev pub MayHaveBy : List Link → Chosen → ℕ → List ℕ → Type 0
MayHaveBy links policy router path = (chosen_permits policy path × GoesOver links router path) ⊎ ([] ≡ path)

-- all paths that a router may have by its policy, each once
pub record AreValuesBy (links : List Link) (policy : Chosen) (router : ℕ) (values : List (List ℕ)) : Type 0 where
  pub exact : (path : List ℕ) → (Contains values path ↔ MayHaveBy links policy router path)
  pub distinct : AllPairs (λ path later. path ≢ later) values
  pub few : length values < 64

-- at least 64 paths that a router may have by its policy, each once
pub record MayHaveMany (links : List Link) (policy : Chosen) (router : ℕ) : Type 0 where
  pub values : List (List ℕ)
  pub many : 64 ≤ length values
  pub may : (path : List ℕ) → Contains values path → MayHaveBy links policy router path
  pub distinct : AllPairs (λ path later. path ≢ later) values

-- ---- paths along those of peers

-- the router has this path in every stable assignment, or the path is empty
abbrev pub IsOnly : Seat → List ℕ → Type 0
IsOnly seat path = (path ≡ []) ⊎ ((IsTrue seat.is_open → ⊥) × (seat.values.items ≡ path ∷ []))

-- a peer has this path in every stable assignment, and the router permits its own along it
pub record IsCertain (links : List Link) (seats : List Seat) (it : Seat) (theirs : List ℕ) : Type 0 where
  pub peer : Seat
  pub seated : Contains seats peer
  pub linked : Linked links it.router peer.router
  pub settled : IsTrue peer.is_open → ⊥
  pub only : peer.values.items ≡ theirs ∷ []
  pub may : chosen_permits it.policy (it.router ∷ theirs)

abbrev pub IsBound : List Link → List Seat → Seat → List ℕ → Type 0
IsBound links seats it bound = (bound ≡ []) ⊎ IsCertain links seats it bound

-- the router doesn't prefer its path along the bound, if there is one, to this path
abbrev pub IsKept : Seat → List ℕ → List ℕ → Type 0
IsKept it bound path = (length bound ≡ 0) ⊎ (chosen_prefers it.policy (it.router ∷ bound) path → ⊥)

-- a path of so many routers; the router's own path along it is permitted, and doesn't fall behind the bound
abbrev pub LeadsOn : Seat → List ℕ → ℕ → List ℕ → Type 0
LeadsOn it bound count rest = (length rest ≡ count) × chosen_permits it.policy (it.router ∷ rest) × IsKept it bound (it.router ∷ rest)

-- the router's path along one of these paths, which leads on
pub record GoesOn (it : Seat) (bound : List ℕ) (theirs : List (List ℕ)) (count : ℕ) (path : List ℕ) : Type 0 where
  pub rest : List ℕ
  pub has : Contains theirs rest
  pub leads : LeadsOn it bound count rest
  pub whole : path ≡ it.router ∷ rest

-- the router's path along one that a peer may have, which leads on
pub record GoesOnOver (links : List Link) (seats : List Seat) (it : Seat) (bound : List ℕ) (count : ℕ) (path : List ℕ) : Type 0 where
  pub peer : Seat
  pub seated : Contains seats peer
  pub linked : Linked links it.router peer.router
  pub on : GoesOn it bound peer.values.items count path

-- these are the router's paths along those of its peers, for some bound
pub record AreOnward (links : List Link) (seats : List Seat) (it : Seat) (count : ℕ) (found : List (List ℕ)) : Type 0 where
  pub bound : List ℕ
  pub is : IsBound links seats it bound
  pub exact : (path : List ℕ) → (Contains found path ↔ GoesOnOver links seats it bound count path)

-- ---- paths that are added

-- the new list has the paths of both; if no path stood twice in the old one, none does in the new
pub record AddsOnce (old paths new : List (List ℕ)) : Type 0 where
  pub exact : (path : List ℕ) → (Contains new path ↔ Contains old path ⊎ Contains paths path)
  pub distinct : AllPairs (λ path later. path ≢ later) old → AllPairs (λ path later. path ≢ later) new

-- both lists together have at least 64 paths
pub record HasMany (old paths : List (List ℕ)) : Type 0 where
  pub values : List (List ℕ)
  pub many : 64 ≤ length values
  pub adds : AddsOnce old paths values

-- a seat with these paths added, of which there are fewer than 64
pub record IsExtended (old : Seat) (paths : List (List ℕ)) (new : Seat) : Type 0 where
  pub router : new.router ≡ old.router
  pub is_origin : new.is_origin ≡ old.is_origin
  pub policy : new.policy ≡ old.policy
  pub is_open : new.is_open ≡ old.is_open
  pub adds : AddsOnce old.values.items paths new.values.items
  pub few : length new.values.items < 64

-- ---- rounds

-- a router with paths that it may have, at least one, each once: all that it has in a stable assignment; if they are
-- found by rounds, all of at most so many routers
pub record IsListing (p : Problem) (most : ℕ) (seat : Seat) : Type 0 where
  pub table : Table
  pub of : IsTableOf p.net seat.router table
  pub origin : IsTrue seat.is_origin ↔ Originates table p.prefix table.router
  pub speaks : Speaks seat.policy table p.prefix
  pub other : IsTrue seat.is_open → IsTrue seat.is_origin → ⊥
  pub may : (path : List ℕ) → Contains seat.values.items path → MayStand p.net.links p.prefix table path
  pub has : (paths : ℕ → List ℕ) → IsStable p paths → (IsTrue seat.is_open → length (paths seat.router) ≤ most)
      → Contains seat.values.items (paths seat.router)
  pub distinct : AllPairs (λ path later. path ≢ later) seat.values.items
  pub some : 0 < length seat.values.items
  pub few : length seat.values.items < 64

-- the routers of the problem, each with all its paths of at most `most` routers; the first `done` of them have those of
-- one router more
pub record AreListed (p : Problem) (most done : ℕ) (seats : List Seat) : Type 0 where
  pub routers : map (λ seat. seat.router) seats ≡ numbers p.net.routers
  pub each : All (IsListing p most) seats
  pub first : (place : ℕ) (seat : Seat) → place < done → StandsAt seats place seat → IsListing p (most + 1) seat
