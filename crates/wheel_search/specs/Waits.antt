-- What the paths of rows wait for before they may be let go. Rows and places in them are numbers here.
use Rattle.std.specs.Prelude.{ℕ, zero, suc, ◌≡◌, ◌<◌, ◌≤◌, ◌+◌, ◌^◌, List, [], length, slice_index_or}
use mathlib.Core.Logic.{◌⊎◌}
use Rattle.ranked_policy.specs.declared.limits.TheConstants.{LONGEST_PATH}
use Rattle.wheel_search.specs.declared.wait.Wait.{Wait}
use Rattle.wheel_search.specs.declared.wait.Wait.TheVariants.{Never, Nothing, Rest}

-- what the path at a place of a row waits for
abbrev pub wait_of : List (List Wait) → ℕ → ℕ → Wait
wait_of waits row place = slice_index_or (slice_index_or waits row []) place Never

-- how many paths a row has
abbrev pub count_of : List (List Wait) → ℕ → ℕ
count_of waits row = length (slice_index_or waits row [])

-- from rest to rest the path comes to the origin, in fewer steps than this
unfoldable pub ComesIn : List (List Wait) → ℕ → ℕ → ℕ → Type 0
ComesIn waits zero row place = ⊥
ComesIn waits (suc n) row place =
    (wait_of waits row place ≡ Nothing)
    ⊎ ((next : ℕ) × (at : ℕ) × (wait_of waits row place ≡ Rest next at) × ComesIn waits n next at)

abbrev pub Comes : List (List Wait) → ℕ → ℕ → Type 0
Comes waits row place = ComesIn waits LONGEST_PATH row place

-- there is such a place
pub record IsPlace (waits : List (List Wait)) (row place : ℕ) : Type 0 where
  pub known : row < length waits
  pub below : place < count_of waits row
  pub fits : place + 1 < 2 ^ 64

-- each rest stands at a place that there is
abbrev pub AreWithin : List (List Wait) → Type 0
AreWithin waits = (row place next at : ℕ) → wait_of waits row place ≡ Rest next at → IsPlace waits next at

-- where a path and the better ones of its row go on, all went before, in so many turns
abbrev pub IsFree : List (List Wait) → ℕ → ℕ → ℕ → Type 0
IsFree waits zero row place = ⊥
IsFree waits (suc n) row place =
    (better : ℕ) → better ≤ place → Comes waits row better → (next at : ℕ) → wait_of waits row better ≡ Rest next at
    → IsFree waits n next at

-- each path can be let go
abbrev pub AllFree : List (List Wait) → Type 0
AllFree waits = (turns : ℕ) × ((row place : ℕ) → row < length waits → place < count_of waits row → IsFree waits turns row place)
