-- Places that follow others together.
use Rattle.std.specs.Prelude.{ℕ, ◌≡◌, ◌≢◌, ◌↔◌, ◌<◌, ◌≤◌, List, length, slice_index}
use Rattle.std.specs.List.{All, Contains}
use mathlib.Core.Logic.{◌⊎◌}
use Rattle.std.specs.Int.RustNames.{bit_and}
use Rattle.stable_search.specs.declared.way.Way.{Way}
use Rattle.stable_search.specs.Parting.{IsFree}
use Rattle.stable_search.specs.Picks.{Has, IsIn}

-- ---- one place

-- an end at the place, over a link to another one
abbrev pub IsHeard : ℕ → Way → Type 0
IsHeard place end = (end.to ≡ place) × (end.from ≢ place)

-- of each set and each value of the end's first place the values that the set and what fits have in common
abbrev pub AreMet : Way → ℕ → List ℕ → List ℕ → Type 0
AreMet end theirs sets met =
    (value : ℕ) → value < 64 → Has theirs value → (set : ℕ) → Contains sets set
    → Contains met (bit_and set (slice_index end.fits.items value))

-- the value fits, at the ends at the place, what a pick has at the other places
abbrev pub FitsTo : List Way → ℕ → List ℕ → ℕ → Type 0
FitsTo ends place pick value =
    All (λ end. IsHeard place end → Has (slice_index end.fits.items (slice_index pick end.from)) value) ends

-- the only value of the place that fits what a pick has at the other places
pub record IsOnlyFit (ends : List Way) (sets : List ℕ) (place : ℕ) (pick : List ℕ) : Type 0 where
  pub value : ℕ
  pub below : value < 64
  pub has : Has (slice_index sets place) value
  pub fits : FitsTo ends place pick value
  pub alone : (other : ℕ) → other < 64 → Has (slice_index sets place) other → FitsTo ends place pick other → other ≡ value

-- whatever values out of their sets the other places have, exactly one value of the place fits them
abbrev pub Answers : List Way → List ℕ → ℕ → Type 0
Answers ends sets place = (pick : List ℕ) → IsIn sets pick → IsOnlyFit ends sets place pick

-- ---- the places of a level

-- what the pick has at each place of the level fits what it has at the others
abbrev pub FitsLevel : List Way → List ℕ → ℕ → List ℕ → Type 0
FitsLevel ends levels level pick =
    (place : ℕ) → place < length levels → slice_index levels place ≡ level → FitsTo ends place pick (slice_index pick place)

-- values of the places of a level that fit what a pick has at the others; any that fit and go with the same at lower levels
-- are these
pub record IsOnlyLevel (ends : List Way) (sets levels : List ℕ) (level : ℕ) (pick : List ℕ) : Type 0 where
  pub more : List ℕ
  pub inside : IsIn sets more
  pub same : (place : ℕ) → slice_index levels place ≢ level → slice_index more place ≡ slice_index pick place
  pub fits : FitsLevel ends levels level more
  pub alone : (other : List ℕ) → IsIn sets other
      → ((place : ℕ) → place < length levels → slice_index levels place < level → slice_index other place ≡ slice_index pick place)
      → FitsLevel ends levels level other → (place : ℕ) → place < length levels → slice_index levels place ≡ level
      → slice_index other place ≡ slice_index more place

-- whatever values out of their sets the other places have, the places of the level have values that fit, and those of lower
-- levels decide which
abbrev pub FollowTogether : List Way → List ℕ → List ℕ → ℕ → Type 0
FollowTogether ends sets levels level = (pick : List ℕ) → IsIn sets pick → IsOnlyLevel ends sets levels level pick

-- at no place does it matter which value a place of a higher level has
abbrev pub AreUnmoved : List Way → List ℕ → List ℕ → Type 0
AreUnmoved ends sets levels = All (λ end. slice_index levels end.to < slice_index levels end.from → IsFree sets end) ends

-- the level of each place: 0, or the places of this level follow together those of lower ones
pub record AreLevels (ends : List Way) (sets levels : List ℕ) : Type 0 where
  pub size : length levels ≡ length sets
  pub most : (place : ℕ) → place < length levels → slice_index levels place ≤ length sets
  pub unmoved : AreUnmoved ends sets levels
  pub follows : (place : ℕ) → place < length levels → 0 < slice_index levels place
      → FollowTogether ends sets levels (slice_index levels place)

-- the same levels, but for places of level 0 that have this level now
pub record IsRaised (levels : List ℕ) (level : ℕ) (raised : List ℕ) : Type 0 where
  pub size : length raised ≡ length levels
  pub each : (place : ℕ) → (slice_index raised place ≡ slice_index levels place)
      ⊎ ((slice_index levels place ≡ 0) × (slice_index raised place ≡ level))

-- ---- values that settle

-- the one set has each value of the end's first place that fits this one, and the other has each value that fits one of those
pub record IsBesides (end : Way) (theirs value partners rivals : ℕ) : Type 0 where
  pub partner : (their : ℕ) → their < 64 → Has theirs their → Has (slice_index end.fits.items their) value → Has partners their
  pub rival : (their : ℕ) → their < 64 → Has theirs their → Has (slice_index end.fits.items their) value
      → (other : ℕ) → Has (slice_index end.fits.items their) other → Has rivals other

-- the end's first place has a lower level, or has the same and all these values of it are settled
abbrev pub IsNear : List ℕ → List ℕ → ℕ → ℕ → Way → Type 0
IsNear levels settled place partners end =
    (slice_index levels end.from < slice_index levels place)
    ⊎ ((slice_index levels end.from ≡ slice_index levels place)
    × ((value : ℕ) → Has partners value → Has (slice_index settled end.from) value))

-- two picks have the same at lower levels, and the same settled values at the places of the level
pub record AreAlike (levels : List ℕ) (level : ℕ) (settled one other : List ℕ) : Type 0 where
  pub low : (place : ℕ) → place < length levels → slice_index levels place < level
      → slice_index one place ≡ slice_index other place
  pub same : (place : ℕ) → place < length levels → slice_index levels place ≡ level → (value : ℕ)
      → Has (slice_index settled place) value → (slice_index one place ≡ value ↔ slice_index other place ≡ value)

-- where the value fits a pick, no other value but for settled ones fits a pick that is alike
abbrev pub Tells : List Way → List ℕ → List ℕ → List ℕ → ℕ → ℕ → Type 0
Tells ends sets levels settled place value =
    (one other : List ℕ) → IsIn sets one → IsIn sets other → AreAlike levels (slice_index levels place) settled one other
    → FitsTo ends place one value → (rival : ℕ) → rival < 64 → Has (slice_index sets place) rival
    → (Has (slice_index settled place) rival → ⊥) → rival ≢ value → FitsTo ends place other rival → ⊥

-- one value more of a place is settled
pub record IsSettled (old : List ℕ) (place value : ℕ) (new : List ℕ) : Type 0 where
  pub size : length new ≡ length old
  pub exact : (other theirs : ℕ) → (Has (slice_index new other) theirs
      ↔ Has (slice_index old other) theirs ⊎ ((other ≡ place) × (theirs ≡ value)))

-- the pick but for the places of the level; there it has a settled value exactly where that fits the pick
pub record IsHalfway (ends : List Way) (sets levels : List ℕ) (level : ℕ) (settled pick : List ℕ) : Type 0 where
  pub more : List ℕ
  pub inside : IsIn sets more
  pub same : (place : ℕ) → slice_index levels place ≢ level → slice_index more place ≡ slice_index pick place
  pub fits : (place : ℕ) → place < length levels → slice_index levels place ≡ level → (value : ℕ)
      → Has (slice_index settled place) value → (slice_index more place ≡ value ↔ FitsTo ends place more value)

-- values of the places of a level of which it is known where they come: picks that are alike agree on where such a value
-- fits; those that fit and have the same at lower levels are alike; and to each pick there is one that fits so far
pub record Settles (ends : List Way) (sets levels : List ℕ) (level : ℕ) (settled : List ℕ) : Type 0 where
  pub size : length settled ≡ length levels
  pub low : (place value : ℕ) → Has (slice_index settled place) value → (value < 64) × Has (slice_index sets place) value
  pub agree : (one other : List ℕ) → IsIn sets one → IsIn sets other → AreAlike levels level settled one other
      → (place : ℕ) → place < length levels → slice_index levels place ≡ level → (value : ℕ)
      → Has (slice_index settled place) value → FitsTo ends place one value → FitsTo ends place other value
  pub alike : (one other : List ℕ) → IsIn sets one → IsIn sets other
      → ((place : ℕ) → place < length levels → slice_index levels place < level
      → slice_index one place ≡ slice_index other place)
      → FitsLevel ends levels level one → FitsLevel ends levels level other → AreAlike levels level settled one other
  pub halfway : (pick : List ℕ) → IsIn sets pick → IsHalfway ends sets levels level settled pick
