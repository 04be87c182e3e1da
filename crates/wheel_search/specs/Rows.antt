-- The paths of each router, the best first, and what each waits for.
use Rattle.std.specs.Prelude.{ℕ, ◌≡◌, ◌↔◌, ◌<◌, ◌≤◌, ◌+◌, ◌^◌, List, [], ◌∷◌, length, map, slice_index, slice_index_or, Some, None}
use Rattle.std.specs.List.{All, Contains}
use Rattle.prefix_lanes.specs.Bits.{PrefixView}
use Rattle.ranked_policy.specs.Paths.{BeginsWith, EndsWith}
use Rattle.ranked_policy.specs.Plans.{Linked, numbers}
use Rattle.ranked_policy.specs.declared.network.Link.{Link}
use Rattle.ranked_policy.specs.declared.network.RankRule.{RankRule}
use Rattle.ranked_policy.specs.Policies.{Table, IsTableOf, Originates, IsPermitted, IsPreferred}
use Rattle.ranked_policy.specs.Tests.{rule_for}
use Rattle.ranked_policy.specs.Ways.{HasWay}
use Rattle.stable_paths.specs.Stable.{Problem}
use Rattle.dispute_wheels.specs.Feasible.{IsFeasible}
use Rattle.wheel_search.specs.declared.row.Kind.{Kind}
use Rattle.wheel_search.specs.declared.row.Kind.TheVariants.{Origin, Ranked, Free}
use Rattle.wheel_search.specs.declared.row.Seat.{Seat}
use Rattle.wheel_search.specs.declared.row.Row.{Row}
use Rattle.wheel_search.specs.declared.wait.Wait.{Wait}
use Rattle.wheel_search.specs.declared.wait.Wait.TheVariants.{Never, Nothing, Rest}
use Rattle.wheel_search.specs.Found.{HasNoRule}
use Rattle.wheel_search.specs.Lists.{walks_to}

-- ---- routers

-- the router of a table originates the prefix, has these paths in its rule for it, or has no rule for it
abbrev pub IsKind : PrefixView → Table → Kind → Type 0
IsKind q table Origin = Originates table q table.router
IsKind q table (Ranked paths) =
    (Originates table q table.router → ⊥) × ((rule : RankRule) × (rule_for table.rules q ≡ Some rule) × (rule.paths ≡ paths.now))
IsKind q table Free = (Originates table q table.router → ⊥) × (rule_for table.rules q ≡ None)

pub record IsSeat (p : Problem) (seat : Seat) : Type 0 where
  pub table : Table
  pub of : IsTableOf p.net seat.router table
  pub kind : IsKind p.prefix table seat.kind

pub record AreSeats (p : Problem) (seats : List Seat) : Type 0 where
  pub routers : map (λ seat. seat.router) seats ≡ numbers p.net.routers
  pub each : All (IsSeat p) seats

abbrev pub IsRanked : Kind → Type 0
IsRanked Origin = ⊥
IsRanked (Ranked paths) = Unit {0}
IsRanked Free = ⊥

abbrev pub IsFreeKind : Kind → Type 0
IsFreeKind Origin = ⊥
IsFreeKind (Ranked paths) = ⊥
IsFreeKind Free = Unit {0}

-- ---- paths

abbrev pub listed : Kind → List (List ℕ) → List (List ℕ)
listed Origin own = own
listed (Ranked paths) own = paths.now
listed Free own = own

abbrev pub paths_of : Row → List (List ℕ)
paths_of row = listed row.seat.kind row.own.items

-- paths of a router: each that ends at an origin is permitted, and each is preferred to those behind it
pub record IsRow (p : Problem) (row : Row) : Type 0 where
  pub seat : IsSeat p row.seat
  pub permitted : (path : List ℕ) (v : ℕ) → Contains (paths_of row) path → Originates seat.table p.prefix v → EndsWith path v
      → IsPermitted seat.table p.prefix path
  pub begins : All (λ path. BeginsWith path row.seat.router) (paths_of row)
  pub order : (i j : ℕ) → i < j → j < length (paths_of row)
      → IsPreferred seat.table p.prefix (slice_index_or (paths_of row) i []) (slice_index_or (paths_of row) j [])

-- of a router without a rule the path has no more routers than this
abbrev pub IsWithin : Problem → ℕ → ℕ → List ℕ → Type 0
IsWithin p longest u path = HasNoRule p u → length path ≤ longest

-- by a path of a router one goes on over a router without a rule so far at most
abbrev pub GoesWithin : Problem → ℕ → ℕ → List (List ℕ) → Type 0
GoesWithin p longest u paths = (v : ℕ) (rest : List ℕ) → Contains paths (u ∷ v ∷ rest) → IsWithin p longest v (v ∷ rest)

-- of a router with a rule each feasible path is there, of one without a rule those of so many routers at most; and so
-- the rest of each path is
pub record IsWhole (p : Problem) (longest : ℕ) (row : Row) : Type 0 where
  pub has : (rest : List ℕ) → IsFeasible p.net p.prefix (row.seat.router ∷ rest) → IsWithin p longest row.seat.router (row.seat.router ∷ rest)
      → Contains (paths_of row) (row.seat.router ∷ rest)
  pub short : (path : List ℕ) → Contains (paths_of row) path → IsWithin p longest row.seat.router path
  pub onward : GoesWithin p longest row.seat.router (paths_of row)

-- so far, at most, go the rests over routers without a rule of the paths that rules list
abbrev pub AreWithin : Problem → ℕ → List Seat → Type 0
AreWithin p longest seats = All (λ seat. GoesWithin p longest seat.router (listed seat.kind [])) seats

-- the paths of a router other than those of a rule: those of so many routers at most, the shorter first, if it has no
-- rule; else that of itself alone
abbrev pub own_paths : Problem → ℕ → ℕ → Kind → List (List ℕ)
own_paths p longest u Origin = (u ∷ []) ∷ []
own_paths p longest u (Ranked paths) = (u ∷ []) ∷ []
own_paths p longest u Free = walks_to p.net p.prefix longest u

abbrev pub OwnPaths : Problem → ℕ → Seat → List (List ℕ) → Type 0
OwnPaths p longest seat own = own ≡ own_paths p longest seat.router seat.kind

-- ---- the paths of all routers

abbrev pub router_at : List Row → ℕ → ℕ
router_at rows row = slice_index (map (λ r. r.seat.router) rows) row

abbrev pub paths_at : List Row → ℕ → List (List ℕ)
paths_at rows row = slice_index_or (map paths_of rows) row []

abbrev pub path_at : List Row → ℕ → ℕ → List ℕ
path_at rows row place = slice_index_or (paths_at rows row) place []

pub record AreRows (p : Problem) (rows : List Row) : Type 0 where
  pub routers : map (λ r. r.seat.router) rows ≡ numbers p.net.routers
  pub each : All (IsRow p) rows
  pub longest : ℕ
  pub whole : All (IsWhole p longest) rows

-- ---- what a path waits for

-- the rest of a path, if it is feasible, stands in the row of its router
abbrev pub RestStands : Problem → List Row → List ℕ → Type 0
RestStands p rows path =
    (u v : ℕ) (rest : List ℕ) → path ≡ u ∷ v ∷ rest → IsFeasible p.net p.prefix (v ∷ rest)
    → (next : ℕ) → next < length rows → router_at rows next ≡ v → Contains (paths_at rows next) (v ∷ rest)

-- these links lead from a router to its peers
abbrev pub AreLinksOf : Problem → ℕ → List Link → Type 0
AreLinksOf p u links = (v : ℕ) → (HasWay links u v ↔ Linked p.net.links u v)

-- a path goes on from the router of a row over a link, by the path at a place of another row
pub record GoesOn (p : Problem) (rows : List Row) (router : ℕ) (path : List ℕ) (next at : ℕ) : Type 0 where
  pub known : next < length rows
  pub below : at < length (paths_at rows next)
  pub fits : at + 1 < 2 ^ 64
  pub whole : path ≡ router ∷ path_at rows next at
  pub linked : Linked p.net.links router (router_at rows next)

-- what a path of a row waits for
abbrev pub IsWait : Problem → List Row → Row → List ℕ → Wait → Type 0
IsWait p rows row path Never = IsFeasible p.net p.prefix path → ⊥
IsWait p rows row path Nothing = (path ≡ row.seat.router ∷ []) × IsFeasible p.net p.prefix path
IsWait p rows row path (Rest next at) = GoesOn p rows row.seat.router path next at

-- what the paths of a row wait for
pub record IsEachWait (p : Problem) (rows : List Row) (row : Row) (waits : List Wait) : Type 0 where
  pub size : length waits ≡ length (paths_of row)
  pub each : (place : ℕ) → place < length waits → IsWait p rows row (slice_index_or (paths_of row) place []) (slice_index_or waits place Never)

-- what the paths of all rows wait for
pub record AreWaits (p : Problem) (rows : List Row) (waits : List (List Wait)) : Type 0 where
  pub size : length waits ≡ length rows
  pub each : (row : ℕ) (d : Row) → row < length rows → IsEachWait p rows (slice_index_or rows row d) (slice_index_or waits row [])
