-- Places that fall into groups, each with its own picks.
use Rattle.std.specs.Prelude.{ℕ, ◌≡◌, ◌≢◌, ◌↔◌, ◌<◌, ◌≤◌, ⊤, IsTrue, List, [], length, map, slice_index, slice_index_or, Result, Ok, Err, Vec}
use Rattle.std.specs.List.{All, AllPairs, Any, Contains}
use mathlib.Core.Logic.{◌⊎◌}
use Rattle.stable_search.specs.declared.every.Component.{Component}
use Rattle.stable_search.specs.declared.group.Group.{Group}
use Rattle.stable_search.specs.declared.refusal.SearchError.{SearchError}
use Rattle.stable_search.specs.declared.refusal.SearchError.TheVariants as refusals
use Rattle.stable_search.specs.declared.seat.Seat.{Seat}
use Rattle.stable_search.specs.declared.stop.Stop.{Stop}
use Rattle.stable_search.specs.declared.stop.Stop.TheVariants as stops
use Rattle.stable_search.specs.declared.way.Way.{Way}
use Rattle.stable_search.specs.Picks.{Has, FitsWay, IsFull, Solves}
use Rattle.stable_search.specs.Seats.{StandsAt}

-- the values that a pick has at these places
abbrev pub at_places : List ℕ → List ℕ → List ℕ
at_places pick places = map (λ place. slice_index pick place) places

-- a value for each of these places
pub record IsLowPick (places pick : List ℕ) : Type 0 where
  pub size : length pick ≡ length places
  pub low : (k : ℕ) → k < length places → slice_index pick k < 64

-- a value for each of these places, out of its set
pub record IsPickOf (sets places pick : List ℕ) : Type 0 where
  pub size : length pick ≡ length places
  pub low : (k : ℕ) → k < length places → slice_index pick k < 64
  pub each : (k : ℕ) → k < length places → Has (slice_index sets (slice_index places k)) (slice_index pick k)

-- places, rising, with picks out of their sets, none listed twice
pub record IsGroup (sets : List ℕ) (group : Group) : Type 0 where
  pub inside : All (λ place. place < length sets) group.places
  pub some : 0 < length group.places
  pub rising : AllPairs (λ place later. place < later) group.places
  pub picks : All (IsPickOf sets group.places) group.picks
  pub once : AllPairs (λ pick later. pick ≢ later) group.picks

-- a value for each of these places, out of its set; the values of two of them fit over each way between them
pub record FitsBetween (ways : List Way) (sets places pick : List ℕ) : Type 0 where
  pub size : length pick ≡ length sets
  pub each : (place : ℕ) → Contains places place → Has (slice_index sets place) (slice_index pick place)
  pub fits : All (λ way. Contains places way.from → Contains places way.to → FitsWay pick way) ways

-- the picks of a group are what fits between its places
pub record AreOwn (ways : List Way) (sets : List ℕ) (group : Group) : Type 0 where
  pub fit : All (λ own. (pick : List ℕ) × FitsBetween ways sets group.places pick × (own ≡ at_places pick group.places)) group.picks
  pub whole : (pick : List ℕ) → ((i : ℕ) → slice_index pick i < 64) → FitsBetween ways sets group.places pick
      → Contains group.picks (at_places pick group.places)

-- each pick that solves has, at these places, the values of one of these picks
abbrev pub AreCovered : List Way → List ℕ → List ℕ → List (List ℕ) → Type 0
AreCovered ways sets places picks = (pick : List ℕ) → Solves ways sets pick → Contains picks (at_places pick places)

-- the way leads to no such place, nor from it
abbrev pub IsAway : ℕ → Way → Type 0
IsAway place way = (way.from ≢ place) × (way.to ≢ place)

-- a pick solves exactly where its values at each group's places are one of the group's picks; each place is in one
-- group; groups stand by their least places
pub record AreGroups (ways : List Way) (sets : List ℕ) (groups : List Group) : Type 0 where
  pub exact : (pick : List ℕ) → length pick ≡ length sets → ((i : ℕ) → slice_index pick i < 64)
      → (Solves ways sets pick ↔ All (λ group. Contains group.picks (at_places pick group.places)) groups)
  pub each : All (IsGroup sets) groups
  pub own : All (AreOwn ways sets) groups
  pub places : (place : ℕ) → place < length sets → Any (λ group. Contains group.places place) groups
  pub apart : AllPairs (λ group later. (place : ℕ) → Contains group.places place → Contains later.places place
      → ⊥) groups
  pub order : AllPairs (λ group later. slice_index group.places 0 < slice_index later.places 0) groups
  -- a place without a way is a group by itself
  pub alone : (place : ℕ) → place < length sets → All (IsAway place) ways
      → All (λ group. Contains group.places place → (other : ℕ) → Contains group.places other → other ≡ place) groups

-- the sets have the values of each seat
abbrev pub AreValues : List Seat → List ℕ → Type 0
AreValues seats sets =
    (length sets ≡ length seats)
    × ((place value : ℕ) (seat : Seat) → StandsAt seats place seat → (Has (slice_index sets place) value
    ↔ value < length seat.values.items))

-- for each place, the path of the seat that the place's value stands for
pub record IsShown (seats : List Seat) (places pick : List ℕ) (choice : List (List ℕ)) : Type 0 where
  pub size : length choice ≡ length places
  pub each : (k : ℕ) (seat : Seat) → k < length places → StandsAt seats (slice_index places k) seat
      → slice_index_or choice k [] ≡ slice_index_or seat.values.items (slice_index pick k) []

-- the routers at these places
pub record AreRoutersAt (seats : List Seat) (places routers : List ℕ) : Type 0 where
  pub size : length routers ≡ length places
  pub each : (k : ℕ) (seat : Seat) → k < length places → StandsAt seats (slice_index places k) seat
      → slice_index routers k ≡ seat.router

-- the values of the seats at these places
pub record AreValuesAt (seats : List Seat) (places : List ℕ) (values : List (List (List ℕ))) : Type 0 where
  pub size : length values ≡ length places
  pub each : (k : ℕ) (seat : Seat) → k < length places → StandsAt seats (slice_index places k) seat
      → slice_index_or values k [] ≡ seat.values.items

-- a group of a place that follows others and has several values
abbrev pub IsLed : List ℕ → Group → Type 0
IsLed levels group = (1 < length group.picks) × (0 < slice_index levels (slice_index group.places 0))

-- the part of a group
pub record IsPartOf (seats : List Seat) (levels : List ℕ) (group : Group) (part : Component) : Type 0 where
  pub routers : AreRoutersAt seats group.places part.routers
  pub values : AreValuesAt seats group.places part.values
  pub picks : part.picks ≡ group.picks
  pub follows : IsTrue part.follows ↔ IsLed levels group

pub record ArePartsOf (seats : List Seat) (levels : List ℕ) (groups : List Group) (parts : List Component) : Type 0 where
  pub size : length parts ≡ length groups
  pub each : (g : ℕ) (group : Group) (part : Component) → StandsAt groups g group → StandsAt parts g part
      → IsPartOf seats levels group part

-- ---- refusals

-- the refusal of a search that stopped, with the routers at the places that were searched
abbrev pub TellsOf : List Seat → List ℕ → Stop → SearchError → Type 0
TellsOf seats places stop (refusals.TooManyPaths router) = ⊥
TellsOf seats places stop (refusals.TooManyChoices routers) = (stop ≡ stops.TooManyChoices) × AreRoutersAt seats places routers
TellsOf seats places stop (refusals.TooManySteps routers) = (stop ≡ stops.TooManySteps) × AreRoutersAt seats places routers
TellsOf seats places stop refusals.Memory = ⊤

-- the search of these sets was refused
abbrev pub RefusesSearch : List Seat → List ℕ → List Way → List ℕ → ℕ → SearchError → Type 0
RefusesSearch seats places ways sets most why =
    (stop : Stop) × TellsOf seats places stop why × (IsFull ways sets most [] stop ⊎ (stop ≡ stops.TooManySteps))

-- places, rising, at least one
pub record ArePlaces (sets places : List ℕ) : Type 0 where
  pub inside : All (λ place. place < length sets) places
  pub some : 0 < length places
  pub rising : AllPairs (λ place later. place < later) places

-- more picks than so many, which differ at these places
pub record HasMorePicks (ways : List Way) (sets places : List ℕ) (most : ℕ) : Type 0 where
  pub picks : List (List ℕ)
  pub more : most < length picks
  pub fit : All (FitsBetween ways sets places) picks
  pub once : AllPairs (λ pick later. at_places pick places ≢ at_places later places) picks

-- what a refusal of a group says
abbrev pub RefusesPlaces : List Seat → List Way → List ℕ → ℕ → SearchError → Type 0
RefusesPlaces seats ways sets most (refusals.TooManyPaths router) = ⊥
RefusesPlaces seats ways sets most (refusals.TooManyChoices routers) =
    (places : List ℕ) × ArePlaces sets places × AreRoutersAt seats places routers × HasMorePicks ways sets places most
RefusesPlaces seats ways sets most (refusals.TooManySteps routers) =
    (places : List ℕ) × ArePlaces sets places × AreRoutersAt seats places routers
RefusesPlaces seats ways sets most refusals.Memory = ⊤

-- groups, none with more picks than so many
abbrev pub HaveGroups : List Way → List ℕ → ℕ → List Group → Type 0
HaveGroups ways sets most groups = AreGroups ways sets groups × All (λ group. length group.picks ≤ most) groups

-- the groups that a search finds, none with more picks than so many; or its refusal
abbrev pub FindsGroups : {Z : Type 0} → List Seat → List Way → List ℕ → ℕ → Result (Vec Group Z) SearchError → Type 0
FindsGroups seats ways sets most (Ok groups) = HaveGroups ways sets most groups.items
FindsGroups seats ways sets most (Err why) = RefusesPlaces seats ways sets most why
