-- A value for each place, out of a set for each, under relations between two places.
use Rattle.std.specs.Prelude.{ℕ, ◌≡◌, ◌≢◌, ◌+◌, ◌<◌, ◌≤◌, ◌++◌, ⊤, List, length, slice_index}
use Rattle.std.specs.List.{All, AllPairs, Contains}
use mathlib.Core.Logic.{◌⊎◌}
use Rattle.std.specs.Int.{bit_at}
use Rattle.stable_search.specs.declared.stop.Stop.{Stop}
use Rattle.stable_search.specs.declared.stop.Stop.TheVariants as stops
use Rattle.stable_search.specs.declared.way.Way.{Way}

-- the value is in the set
abbrev pub Has : ℕ → ℕ → Type 0
Has values value = bit_at values value ≡ 1

-- a value for each place, out of its set
pub record IsIn (sets pick : List ℕ) : Type 0 where
  pub size : length pick ≡ length sets
  pub low : (i : ℕ) → slice_index pick i < 64
  pub each : (i : ℕ) → i < length sets → Has (slice_index sets i) (slice_index pick i)

-- the values of the two places fit
abbrev pub FitsWay : List ℕ → Way → Type 0
FitsWay pick way = Has (slice_index way.fits.items (slice_index pick way.from)) (slice_index pick way.to)

-- the two places of a way are among so many, and the way says of at most 64 values which ones fit them
pub record IsWithin (places : ℕ) (way : Way) : Type 0 where
  pub from : way.from < places
  pub to : way.to < places
  pub few : length way.fits.items ≤ 64

abbrev pub AreWithin : ℕ → List Way → Type 0
AreWithin places ways = All (IsWithin places) ways

pub record Solves (ways : List Way) (sets pick : List ℕ) : Type 0 where
  pub inside : IsIn sets pick
  pub fits : All (FitsWay pick) ways

-- these are all picks that solve, each once
pub record AreAll (ways : List Way) (sets : List ℕ) (picks : List (List ℕ)) : Type 0 where
  pub listed : (pick : List ℕ) → Contains picks pick → Solves ways sets pick
  pub covered : (pick : List ℕ) → Solves ways sets pick → Contains picks pick
  pub distinct : AllPairs (λ pick later. pick ≢ later) picks

-- the new list is the old one with all picks that solve behind it
pub record AddsAll (ways : List Way) (sets : List ℕ) (old new : List (List ℕ)) : Type 0 where
  pub more : List (List ℕ)
  pub added : new ≡ old ++ more
  pub all : AreAll ways sets more

-- picks that solve, none twice, with which a list has more than so many
pub record AddsMore (ways : List Way) (sets : List ℕ) (most : ℕ) (old : List (List ℕ)) : Type 0 where
  pub more : List (List ℕ)
  pub beyond : most < length old + length more
  pub listed : (pick : List ℕ) → Contains more pick → Solves ways sets pick
  pub distinct : AllPairs (λ pick later. pick ≢ later) more

-- not all that solve fit into a list of so many; or memory was refused
abbrev pub IsFull : List Way → List ℕ → ℕ → List (List ℕ) → Stop → Type 0
IsFull ways sets most old stops.TooManyChoices = AddsMore ways sets most old
IsFull ways sets most old stops.TooManySteps = ⊥
IsFull ways sets most old stops.Memory = ⊤

-- the sets lose no pick that solves, and gain no value
pub record Narrows (ways : List Way) (old new : List ℕ) : Type 0 where
  pub size : length new ≡ length old
  pub keeps : (pick : List ℕ) → Solves ways old pick → IsIn new pick
  pub fewer : (place value : ℕ) → Has (slice_index new place) value → Has (slice_index old place) value

-- each set has a value
abbrev pub AllSome : List ℕ → Type 0
AllSome sets = (i : ℕ) → i < length sets → (value : ℕ) × Has (slice_index sets i) value

-- no mark is lost
abbrev pub MarksMore : List ℕ → List ℕ → Type 0
MarksMore old new = (place value : ℕ) → Has (slice_index old place) value → Has (slice_index new place) value

-- each value that a pick which solves has at the place is marked
abbrev pub Sees : List Way → List ℕ → ℕ → List ℕ → Type 0
Sees ways sets place seen = (pick : List ℕ) → Solves ways sets pick → Has (slice_index seen place) (slice_index pick place)

-- so it is at each of these places
abbrev pub SeesAll : List Way → List ℕ → List ℕ → List ℕ → Type 0
SeesAll ways sets places seen = (place : ℕ) → Contains places place → Sees ways sets place seen

-- the value is the set's only one
pub record IsOnly (values value : ℕ) : Type 0 where
  pub low : value < 64
  pub here : Has values value
  pub alone : (other : ℕ) → other < 64 → Has values other → other ≡ value

-- the pick of the only value of each set
pub record IsOnlyPick (sets pick : List ℕ) : Type 0 where
  pub size : length pick ≡ length sets
  pub only : (i : ℕ) → i < length sets → IsOnly (slice_index sets i) (slice_index pick i)

-- a set falls into two
pub record FallsInto (values one rest : ℕ) : Type 0 where
  pub either : (value : ℕ) → Has values value → Has one value ⊎ Has rest value
  pub in_one : (value : ℕ) → Has one value → Has values value
  pub in_rest : (value : ℕ) → Has rest value → Has values value
  pub apart : (value : ℕ) → Has one value → Has rest value → ⊥

-- the new list is the old one, and behind it, each once, all picks of the first sets that solve, but for those of the
-- other sets
pub record LeavesOut (ways : List Way) (from rest : List ℕ) (old new : List (List ℕ)) : Type 0 where
  pub within : AreWithin (length rest) ways
  pub fewer : (pick : List ℕ) → IsIn rest pick → IsIn from pick
  pub more : List (List ℕ)
  pub added : new ≡ old ++ more
  pub listed : (pick : List ℕ) → Contains more pick → Solves ways from pick × (IsIn rest pick → ⊥)
  pub covered : (pick : List ℕ) → Solves ways from pick → Contains more pick ⊎ IsIn rest pick
  pub distinct : AllPairs (λ pick later. pick ≢ later) more
