-- The rims of a circle of rows that hold one another.
use Rattle.std.specs.Prelude.{ℕ, ◌≡◌, ◌≢◌, ◌<◌, ◌≤◌, length, List, [], ◌∷◌, ◌++◌, slice_index}
use mathlib.Core.Logic.{◌⊎◌}
use Rattle.wheel_search.specs.declared.rim.Rim.{Rim}
use Rattle.wheel_search.specs.declared.row.Row.{Row}
use Rattle.wheel_search.specs.declared.wait.Wait.{Wait}
use Rattle.wheel_search.specs.declared.wait.Wait.TheVariants.{Rest}
use Rattle.wheel_search.specs.Waits.{wait_of, count_of, AreWithin}
use Rattle.wheel_search.specs.Rows.{path_at, paths_at}

-- the rim of a row: the path at a place, and the first that did not go
abbrev pub rim_at : List Row → List ℕ → ℕ → ℕ → Rim
rim_at rows gone row at = record { spoke = path_at rows row at; over = path_at rows row (slice_index gone row) }

-- the rest that a held row waits for, at a place of another row
pub record HeldAt (waits : List (List Wait)) (gone : List ℕ) (held : ℕ) : Type 0 where
  pub row : ℕ
  pub at : ℕ
  pub waits_for : wait_of waits held (slice_index gone held) ≡ Rest row at
  pub behind : slice_index gone row ≤ at

-- each row went so far that its next path is there if another row waits for it
pub record AreHeld (rows : List Row) (waits : List (List Wait)) (gone : List ℕ) : Type 0 where
  pub size : length gone ≡ length waits
  pub same : length waits ≡ length rows
  pub counts : (row : ℕ) → row < length rows → count_of waits row ≡ length (paths_at rows row)
  pub low : (row : ℕ) → slice_index gone row ≤ count_of waits row
  pub within : AreWithin waits

-- the rim of the row that holds another is added, unless the path at the place is the first that did not go
abbrev pub AddsRim : List Row → List (List Wait) → List ℕ → ℕ → List Rim → List Rim → Type 0
AddsRim rows waits gone held old new =
    (h : HeldAt waits gone held)
    × (((h.at ≡ slice_index gone h.row) × (new ≡ old))
    ⊎ ((h.at ≢ slice_index gone h.row) × (new ≡ old ++ rim_at rows gone h.row h.at ∷ [])))

-- these are the rims that are added for these rows
abbrev pub AreRimsOf : List Row → List (List Wait) → List ℕ → List ℕ → List Rim → Type 0
AreRimsOf rows waits gone [] rims = rims ≡ []
AreRimsOf rows waits gone (held ∷ more) rims =
    (h : HeldAt waits gone held)
    × (((h.at ≡ slice_index gone h.row) × AreRimsOf rows waits gone more rims)
    ⊎ ((h.at ≢ slice_index gone h.row)
    × ((others : List Rim) × (rims ≡ rim_at rows gone h.row h.at ∷ others) × AreRimsOf rows waits gone more others)))
