-- Routers with what they may have in a stable assignment, and the relations between them.
use Rattle.std.specs.Prelude.{ℕ, ◌≡◌, ◌≢◌, ◌↔◌, ◌<◌, List, [], ◌∷◌, IsTrue, length, slice_index, slice_index_or}
use Rattle.std.specs.List.{All, AllPairs, Any, Contains}
use mathlib.Core.Logic.{◌⊎◌}
use Rattle.ranked_policy.specs.declared.network.Link.{Link}
use Rattle.ranked_policy.specs.declared.policy.Chosen.{Chosen}
use Rattle.ranked_policy.specs.Choosing.{chosen_permits, chosen_prefers}
use Rattle.ranked_policy.specs.Paths.{BeginsWith}
use Rattle.ranked_policy.specs.Plans.{Linked}
use Rattle.ranked_policy.specs.Policies.{Table, IsTableOf, Originates}
use Rattle.ranked_policy.specs.Choices.{Speaks}
use Rattle.stable_paths.specs.Stable.{Problem, IsStable}
use Rattle.stable_search.specs.Choosers.{MayChoose}
use Rattle.stable_search.specs.Fits.{MayStand}
use Rattle.stable_search.specs.Picks.{Has}
use Rattle.stable_search.specs.declared.chooser.Chooser.{Chooser}
use Rattle.stable_search.specs.declared.seat.Seat.{Seat}
use Rattle.stable_search.specs.declared.way.Way.{Way}

-- a router with paths that it may have, at least one, each once: all that it has in any stable assignment are among them
pub record IsSeat (p : Problem) (seat : Seat) : Type 0 where
  pub table : Table
  pub of : IsTableOf p.net seat.router table
  pub origin : IsTrue seat.is_origin ↔ Originates table p.prefix table.router
  pub speaks : Speaks seat.policy table p.prefix
  pub may : (path : List ℕ) → Contains seat.values.items path → MayStand p.net.links p.prefix table path
  pub has : (paths : ℕ → List ℕ) → IsStable p paths → Contains seat.values.items (paths seat.router)
  pub distinct : AllPairs (λ path later. path ≢ later) seat.values.items
  pub some : 0 < length seat.values.items
  pub few : length seat.values.items < 64

-- paths that a router may have, at least one, each once: all that it has in any stable assignment are among them
pub record AreValuesOf (p : Problem) (it : Chooser) (values : List (List ℕ)) : Type 0 where
  pub may : (path : List ℕ) → Contains values path → MayChoose p.net.links it path
  pub has : (paths : ℕ → List ℕ) → IsStable p paths → Contains values (paths it.router)
  pub distinct : AllPairs (λ path later. path ≢ later) values
  pub some : 0 < length values
  pub few : length values < 64

-- what a router has fits what its peer has, by the router's policy
pub record FitsBy (policy : Chosen) (router peer : ℕ) (path theirs : List ℕ) : Type 0 where
  pub over : (rest : List ℕ) → path ≡ router ∷ peer ∷ rest → path ≡ router ∷ theirs
  pub best : chosen_permits policy (router ∷ theirs) → path ≢ router ∷ theirs
      → BeginsWith path router × chosen_prefers policy path (router ∷ theirs)

-- what a router of a seat has fits what its peer has; an origin fits all
abbrev pub FitsEnd : Seat → ℕ → List ℕ → List ℕ → Type 0
FitsEnd seat peer path theirs = IsTrue seat.is_origin ⊎ FitsBy seat.policy seat.router peer path theirs

-- what the routers of two seats have fits at both ends
abbrev pub FitsBoth : Seat → Seat → List ℕ → List ℕ → Type 0
FitsBoth one other path theirs = FitsEnd one other.router path theirs × FitsEnd other one.router theirs path

-- the marks stand for the values of the second seat along which the router of the first permits its path
abbrev pub MarksPermitted : Seat → Seat → ℕ → Type 0
MarksPermitted one other marks = (b : ℕ) → b < length other.values.items
    → (Has marks b ↔ chosen_permits one.policy (one.router ∷ slice_index_or other.values.items b []))

-- an item stands at a place of a list
abbrev pub StandsAt : {X : Type 0} → List X → ℕ → X → Type 0
StandsAt xs place x = (place < length xs) × (slice_index_or xs place x ≡ x)

-- the sets say which values of two seats fit
pub record SayWhatFits (one other : Seat) (fits : List ℕ) : Type 0 where
  pub size : length fits ≡ length one.values.items
  pub exact : (a b : ℕ) → a < length one.values.items → b < length other.values.items
      → (Has (slice_index fits a) b
      ↔ FitsBoth one other (slice_index_or one.values.items a []) (slice_index_or other.values.items b []))

-- a way over a link between two of the seats
pub record IsWayOf (links : List Link) (seats : List Seat) (way : Way) : Type 0 where
  pub one : Seat
  pub other : Seat
  pub from : StandsAt seats way.from one
  pub to : StandsAt seats way.to other
  pub linked : Linked links one.router other.router
  pub fits : SayWhatFits one other way.fits.items

-- there is a way from a place to another
abbrev pub HasWay : List Way → ℕ → ℕ → Type 0
HasWay ways from to = Any (λ way. (way.from ≡ from) × (way.to ≡ to)) ways

-- over each link from a place there is a way
abbrev pub HasWaysFrom : List Link → List Seat → List Way → ℕ → Type 0
HasWaysFrom links seats ways from =
    (to : ℕ) (one other : Seat) → StandsAt seats from one → StandsAt seats to other
    → Linked links one.router other.router → HasWay ways from to

-- these are the ways over the links between the seats
pub record AreWaysOf (links : List Link) (seats : List Seat) (ways : List Way) : Type 0 where
  pub each : All (IsWayOf links seats) ways
  pub all : (from : ℕ) → from < length seats → HasWaysFrom links seats ways from

-- the sets say which values of the second of two seats fit those of the first at the second router
pub record SayWhatFitsEnd (one other : Seat) (fits : List ℕ) : Type 0 where
  pub size : length fits ≡ length one.values.items
  pub exact : (a b : ℕ) → a < length one.values.items → b < length other.values.items
      → (Has (slice_index fits a) b
      ↔ FitsEnd other one.router (slice_index_or other.values.items b []) (slice_index_or one.values.items a []))

-- the second end of a link between two of the seats
pub record IsEndOf (links : List Link) (seats : List Seat) (end : Way) : Type 0 where
  pub one : Seat
  pub other : Seat
  pub from : StandsAt seats end.from one
  pub to : StandsAt seats end.to other
  pub linked : Linked links one.router other.router
  pub fits : SayWhatFitsEnd one other end.fits.items

-- these are both ends of each link between the seats
pub record AreEndsOf (links : List Link) (seats : List Seat) (ends : List Way) : Type 0 where
  pub each : All (IsEndOf links seats) ends
  pub all : (from : ℕ) → from < length seats → HasWaysFrom links seats ends from
