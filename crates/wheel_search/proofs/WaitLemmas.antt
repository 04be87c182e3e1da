-- Paths that come to the origin, and what is let go.
use Rattle.std.proofs.Common.{◌≡◌, ℕ, zero, suc, ◌<◌, ◌≤◌, ◌↔◌, List, [], ◌∷◌, ◌++◌, length, get_or, sym, ap, subst, ◌∙◌, arith, inl, inr}
use Rattle.std.proofs.lemmas.Bool.{cases_lt}
use Rattle.std.proofs.lemmas.List.{get_or_append_left, get_or_push, length_push}
use mathlib.Core.Logic.{◌⊎◌}
use Rattle.wheel_search.specs.declared.wait.Wait.{Wait}
use Rattle.wheel_search.specs.declared.wait.Wait.TheVariants.{Never, Nothing, Rest}
use Rattle.wheel_search.specs.Waits.{wait_of, ComesIn, Comes, IsFree}

abbrev row_in : Wait → ℕ
row_in Never = 0
row_in Nothing = 0
row_in (Rest next at) = next

abbrev place_in : Wait → ℕ
place_in Never = 0
place_in Nothing = 0
place_in (Rest next at) = at

pub same_row : (v k w j : ℕ) → Rest v k ≡ Rest w j → v ≡ w
same_row v k w j e = ap row_in e

pub same_place : (v k w j : ℕ) → Rest v k ≡ Rest w j → k ≡ j
same_place v k w j e = ap place_in e

pub never_comes : (waits : List (List Wait)) (n r i : ℕ) → wait_of waits r i ≡ Never → ComesIn waits n r i → ⊥
unfolding ComesIn
never_comes waits zero r i is c = c
never_comes waits (suc n) r i is (inl nothing) = absurd (cc (is, nothing))
never_comes waits (suc n) r i is (inr x) = absurd (cc (is, x.2))

pub nothing_comes : (waits : List (List Wait)) (n m r i : ℕ) → n ≡ suc m → wait_of waits r i ≡ Nothing → ComesIn waits n r i
unfolding ComesIn
nothing_comes waits n m r i e is = subst (λ (k : ℕ). ComesIn waits k r i) (sym e) (inl is)

rest_comes : (waits : List (List Wait)) (m r i v k : ℕ) → wait_of waits r i ≡ Rest v k → ComesIn waits (suc m) r i → ComesIn waits m v k
unfolding ComesIn
rest_comes waits m r i v k is (inl nothing) = absurd (cc (is, nothing))
rest_comes waits m r i v k is (inr x) =
    let e = sym x.2 ∙ is in
    subst (λ (w : ℕ). ComesIn waits m w k) (same_row x.0 x.1 v k e) (subst (λ (j : ℕ). ComesIn waits m x.0 j) (same_place x.0 x.1 v k e) x.3)

pub comes_on : (waits : List (List Wait)) (n m r i v k : ℕ) → n ≡ suc m → wait_of waits r i ≡ Rest v k → (ComesIn waits n r i ↔ ComesIn waits m v k)
unfolding ComesIn
comes_on waits n m r i v k e is = (
  λ c. rest_comes waits m r i v k is (subst (λ (x : ℕ). ComesIn waits x r i) e c),
  λ c. subst (λ (x : ℕ). ComesIn waits x r i) (sym e) (inr (v, k, is, c)),
)

pub never_in : (waits : List (List Wait)) (r i : ℕ) → ComesIn waits zero r i → ⊥
unfolding ComesIn
never_in waits r i c = c

pub comes_by : (waits : List (List Wait)) (n r i : ℕ) → ComesIn waits (suc n) r i
    → (wait_of waits r i ≡ Nothing) ⊎ ((v : ℕ) × (k : ℕ) × (wait_of waits r i ≡ Rest v k) × ComesIn waits n v k)
unfolding ComesIn
comes_by waits n r i c = c

-- ---- what is let go

pub free_more : (waits : List (List Wait)) (n r i : ℕ) → IsFree waits n r i → IsFree waits (suc n) r i
free_more waits zero r i f = absurd f
free_more waits (suc n) r i f = λ better le c next at e. free_more waits n next at (f better le c next at e)

pub free_rest : (waits : List (List Wait)) (n r i v k : ℕ) → IsFree waits n r i → (j : ℕ) → j ≤ i → Comes waits r j → wait_of waits r j ≡ Rest v k → IsFree waits n v k
free_rest waits zero r i v k f j le c e = absurd f
free_rest waits (suc n) r i v k f j le c e = free_more waits n v k (f j le c v k e)

-- ---- one wait more

pub waits_more : (P : ℕ → Wait → Type 0) (xs new : List Wait) (x : Wait) (n : ℕ) → new ≡ xs ++ x ∷ [] → length xs ≡ n → ((k : ℕ) → k < length xs → P k (get_or xs k Never)) → P n x
    → (k : ℕ) → k < length new → P k (get_or new k Never)
waits_more P xs new x n e size all one k l = elim (cases_lt k (length xs)) [
  | inl m ↦ subst (P k) (sym (ap (λ (ys : List Wait). get_or ys k Never) e ∙ get_or_append_left xs (x ∷ []) Never k m)) (all k m)
  | inr m ↦
      let here : n ≡ k = omega (arith, size, m, l, ap length e, length_push xs x) in
      let last : get_or new n Never ≡ x = ap (λ (ys : List Wait). get_or ys n Never) e ∙ get_or_push xs x Never n size in
      subst (λ (i : ℕ). P i (get_or new i Never)) here (subst (P n) (sym last) one)
]
