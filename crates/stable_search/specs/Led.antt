-- Groups of places that follow none, and places that follow.
use Rattle.std.specs.Prelude.{ℕ, ◌≡◌, ◌≢◌, ◌<◌, ◌≤◌, List, length, slice_index, Result, Ok, Err}
use Rattle.std.specs.List.{All, Any, Contains}
use Rattle.stable_search.specs.declared.group.Group.{Group}
use Rattle.stable_search.specs.declared.group.Grouping.{Grouping}
use Rattle.stable_search.specs.declared.refusal.SearchError.{SearchError}
use Rattle.stable_search.specs.declared.seat.Seat.{Seat}
use Rattle.stable_search.specs.declared.way.Way.{Way}
use Rattle.stable_search.specs.Following.{AreLevels}
use Rattle.stable_search.specs.Groups.{AreGroups, IsLed, RefusesPlaces}
use Rattle.stable_search.specs.Parting.{KeepsPart, AreCopies}
use Rattle.stable_search.specs.Picks.{AllSome, Narrows}

-- a group that isn't one, and has no pick, or several
abbrev pub IsOpen : List ℕ → Group → Type 0
IsOpen levels group = (IsLed levels group → ⊥) × (length group.picks ≢ 1)

-- groups of the places that follow none, and each place that follows by itself. Which ones follow is seen of sets of
-- which these are the narrowed ones
pub record AreLed (ways ends : List Way) (old now levels : List ℕ) (groups : List Group) : Type 0 where
  pub wide : List ℕ
  pub before : Narrows ways old wide
  pub narrowed : Narrows ways wide now
  pub levels_are : AreLevels ends wide levels
  pub core : List Way
  pub keeps : KeepsPart levels 0 ways core
  pub copies : AreCopies levels 0 ways core
  pub fall : AreGroups core now groups
  pub alone : All (λ group. (place : ℕ) → Contains group.places place → 0 < slice_index levels place
      → length group.places ≡ 1) groups
  pub needed : Any (IsLed levels) groups → Any (IsOpen levels) groups

-- such groups, none with more picks than so many
abbrev pub HaveLed : List Way → List Way → List ℕ → List ℕ → List ℕ → ℕ → List Group → Type 0
HaveLed ways ends old now levels most groups =
    AreLed ways ends old now levels groups × All (λ group. length group.picks ≤ most) groups

-- the groups that a search finds of sets that are narrowed, but for their last values; or its refusal
abbrev pub FindsLed : List Seat → List Way → List Way → List ℕ → ℕ → Result Grouping SearchError → Type 0
FindsLed seats ways ends sets most (Ok it) =
    (now : List ℕ) × (AllSome sets → AllSome now) × HaveLed ways ends sets now it.levels.items most it.groups.items
FindsLed seats ways ends sets most (Err why) = RefusesPlaces seats ways sets most why
