-- How far the paths of rows were let go, and which rows hold one another.
use Rattle.std.specs.Prelude.{ℕ, ◌≡◌, ◌<◌, ◌≤◌, Bool, true, false, List, [], ◌∷◌, ◌++◌, ◌+◌, ◌^◌, length, slice_index, slice_index_or, slice_set}
use Rattle.std.specs.List.{Contains}
use mathlib.Core.Logic.{◌⊎◌}
use Rattle.wheel_search.specs.declared.wait.Wait.{Wait}
use Rattle.wheel_search.specs.declared.wait.Wait.TheVariants.{Rest}
use Rattle.wheel_search.specs.declared.letting.Letting.{Letting}
use Rattle.wheel_search.specs.Waits.{wait_of, count_of, Comes, IsFree}

-- of each row so many paths went, the best first
pub record AreGone (waits : List (List Wait)) (gone : List ℕ) : Type 0 where
  pub size : length gone ≡ length waits
  pub low : (row : ℕ) → slice_index gone row ≤ count_of waits row
  pub turns : ℕ
  pub free : (row place : ℕ) → place < slice_index gone row → IsFree waits turns row place

-- the next path of the held row is feasible, and its rest stands in the other row, where it did not go
pub record Holds (waits : List (List Wait)) (gone : List ℕ) (held by : ℕ) : Type 0 where
  pub at : ℕ
  pub waits_for : wait_of waits held (slice_index gone held) ≡ Rest by at
  pub comes : Comes waits held (slice_index gone held)
  pub behind : slice_index gone by ≤ at

-- each of these rows is held by the next, and the last by a row
abbrev pub HoldRound : List (List Wait) → List ℕ → ℕ → List ℕ → ℕ → Type 0
HoldRound waits gone row [] last = Holds waits gone row last
HoldRound waits gone row (next ∷ rows) last = Holds waits gone row next × HoldRound waits gone next rows last

-- whether the next path of a row is being let go
abbrev pub IsBusy : List Bool → ℕ → Type 0
IsBusy busy row = slice_index_or busy row false ≡ true

-- of rows that are busy no path went meanwhile
abbrev pub BusyStay : List Bool → List ℕ → List ℕ → Type 0
BusyStay busy old new = (row : ℕ) → IsBusy busy row → slice_index new row ≡ slice_index old row

-- what is asked before the paths of a row are let go, up to a place: the row is not busy
pub record MayGo (waits : List (List Wait)) (letting : Letting) (row last : ℕ) : Type 0 where
  pub gone : AreGone waits letting.gone.items
  pub size : length letting.busy.items ≡ length waits
  pub known : row < length waits
  pub below : last < count_of waits row
  pub fits : last + 1 < 2 ^ 64
  pub shut : slice_index_or letting.busy.items row false ≡ false
  pub first : slice_index letting.gone.items row ≤ last

-- the paths of a row in front of a place went; meanwhile the row is busy, and stands at the end of the trail
pub record IsOn (waits : List (List Wait)) (old : Letting) (gone : List ℕ) (busy : List Bool) (trail : List ℕ) (row place : ℕ) : Type 0 where
  pub are : AreGone waits gone
  pub reached : slice_index gone row ≡ place
  pub marked : busy ≡ slice_set old.busy.items row true
  pub pushed : trail ≡ old.trail.items ++ row ∷ []
  pub stay : BusyStay old.busy.items old.gone.items gone
  pub more : (other : ℕ) → slice_index old.gone.items other ≤ slice_index gone other

-- the paths of a row went, up to a place
pub record HasGone (waits : List (List Wait)) (old new : Letting) (row last : ℕ) : Type 0 where
  pub gone : AreGone waits new.gone.items
  pub through : last < slice_index new.gone.items row
  pub busy : new.busy.items ≡ old.busy.items
  pub trail : new.trail.items ≡ old.trail.items
  pub stay : BusyStay old.busy.items old.gone.items new.gone.items
  pub more : (other : ℕ) → slice_index old.gone.items other ≤ slice_index new.gone.items other

-- behind the trail stand the row and others, each held by the next, and the last by one of them or by one that was busy
pub record IsHeld (waits : List (List Wait)) (old new : Letting) (row last closes : ℕ) : Type 0 where
  pub gone : AreGone waits new.gone.items
  pub short : slice_index new.gone.items row ≤ last
  pub rows : List ℕ
  pub trail : new.trail.items ≡ old.trail.items ++ row ∷ rows
  pub holds : HoldRound waits new.gone.items row rows closes
  pub back : IsBusy old.busy.items closes ⊎ Contains (row ∷ rows) closes
  pub stay : BusyStay old.busy.items old.gone.items new.gone.items

-- rows that hold one another in a circle
pub record IsCircle (waits : List (List Wait)) (letting : Letting) (closes : ℕ) : Type 0 where
  pub gone : AreGone waits letting.gone.items
  pub first : ℕ
  pub rows : List ℕ
  pub trail : letting.trail.items ≡ first ∷ rows
  pub holds : HoldRound waits letting.gone.items first rows closes
  pub back : Contains (first ∷ rows) closes
