-- Places that bear on each other have one label.
use Rattle.std.specs.Prelude.{ℕ, ◌≡◌, ◌↔◌, ◌<◌, ◌≤◌, ◌==◌, List, length, slice_index, if◌then◌else◌}
use Rattle.std.specs.List.{All, AllPairs, Any, Contains}
use mathlib.Core.Logic.{◌⊎◌}
use Rattle.stable_search.specs.declared.group.Group.{Group}
use Rattle.stable_search.specs.declared.way.Way.{Way}
use Rattle.stable_search.specs.Picks.{Has, IsIn, FitsWay}
use Rattle.stable_search.specs.Groups.{at_places, IsAway, IsGroup, AreOwn}

-- each value of one place of a way fits each value of the other
abbrev pub IsFree : List ℕ → Way → Type 0
IsFree sets way =
    (a b : ℕ) → a < 64 → Has (slice_index sets way.from) a → Has (slice_index sets way.to) b
    → Has (slice_index way.fits.items a) b

-- each label is the least place that has it
abbrev pub AreLeast : List ℕ → Type 0
AreLeast labels =
    (i : ℕ) → i < length labels → (slice_index labels i ≤ i) × (slice_index labels (slice_index labels i) ≡ slice_index labels i)

-- no other place has the label of this one
abbrev pub IsAlone : List ℕ → ℕ → Type 0
IsAlone labels place =
    (other : ℕ) → other < length labels → slice_index labels other ≡ slice_index labels place → other ≡ place

-- places that share a label still share one; no label is new; the two places of the way share a label, or the way is
-- free; a place to which the way doesn't lead stays alone
pub record Joins (sets : List ℕ) (way : Way) (old new : List ℕ) : Type 0 where
  pub kept : (i j : ℕ) → i < length old → j < length old → slice_index old i ≡ slice_index old j
      → slice_index new i ≡ slice_index new j
  pub low : (n : ℕ) → ((i : ℕ) → i < length old → slice_index old i < n) → (i : ℕ) → i < length old
      → slice_index new i < n
  pub joined : IsFree sets way ⊎ (slice_index new way.from ≡ slice_index new way.to)
  pub least : AreLeast old → AreLeast new
  pub alone : (place : ℕ) → place < length old → IsAway place way → IsAlone old place → IsAlone new place

-- the ways that aren't free join places with one label; a place without a way is alone
pub record AreLabels (sets : List ℕ) (ways : List Way) (labels : List ℕ) : Type 0 where
  pub size : length labels ≡ length sets
  pub low : (i : ℕ) → i < length sets → slice_index labels i < length sets
  pub joined : All (λ way. IsFree sets way ⊎ (slice_index labels way.from ≡ slice_index labels way.to)) ways
  pub least : AreLeast labels
  pub alone : (place : ℕ) → place < length sets → All (IsAway place) ways → IsAlone labels place

-- both places of the way have the label
abbrev pub InPart : List ℕ → ℕ → Way → Type 0
InPart labels label way = (slice_index labels way.from ≡ label) × (slice_index labels way.to ≡ label)

-- a pick fits over the ways of the part exactly where it fits over the ways between the part's places
abbrev pub KeepsPart : List ℕ → ℕ → List Way → List Way → Type 0
KeepsPart labels label ways part =
    (pick : List ℕ) → (All (FitsWay pick) part ↔ All (λ way. InPart labels label way → FitsWay pick way) ways)

-- the same way
abbrev pub IsCopy : Way → Way → Type 0
IsCopy way copy = (copy.from ≡ way.from) × (copy.to ≡ way.to) × (copy.fits.items ≡ way.fits.items)

-- the ways of the part are those between the part's places
pub record AreCopies (labels : List ℕ) (label : ℕ) (ways part : List Way) : Type 0 where
  pub all : All (λ way. InPart labels label way → Any (IsCopy way) part) ways
  pub only : All (λ copy. Any (λ way. IsCopy way copy) ways) part

-- the sets of the part's places; each other place has the value 0 alone
pub record IsPartSets (sets labels : List ℕ) (label : ℕ) (part : List ℕ) : Type 0 where
  pub size : length part ≡ length sets
  pub each : (i : ℕ) → i < length sets
      → slice_index part i ≡ (if slice_index labels i == label then slice_index sets i else 1)

-- the places with the label, and all picks for them
pub record IsPartGroup (sets labels : List ℕ) (label : ℕ) (ways : List Way) (it : Group) : Type 0 where
  pub group : IsGroup sets it
  pub places : (place : ℕ) → (Contains it.places place ↔ (place < length labels) × (slice_index labels place ≡ label))
  pub exact : (pick : List ℕ) → IsIn sets pick
      → (Contains it.picks (at_places pick it.places) ↔ All (λ way. InPart labels label way → FitsWay pick way) ways)
  pub own : AreOwn ways sets it

-- there is a group for each label below this bound that a place has
pub record AreGrouped (sets labels : List ℕ) (ways : List Way) (labels_below : ℕ) (groups : List Group) : Type 0 where
  pub each : All (λ group. (label : ℕ) × (label < labels_below) × IsPartGroup sets labels label ways group) groups
  pub all : (place : ℕ) → place < length labels → slice_index labels place < labels_below
      → Any (λ group. Contains group.places place) groups
  pub some : All (λ group. 0 < length group.places) groups
  pub order : AllPairs (λ group later. (place behind : ℕ) → Contains group.places place → Contains later.places behind
      → slice_index labels place < slice_index labels behind) groups
