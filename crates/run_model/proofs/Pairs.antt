-- Facts on each of a list and on each pair, by recursion on the list; and std's words for them.
use Rattle.std.proofs.Common.{◌≡◌, ℕ, zero, suc, ◌≤◌, ◌<◌, ◌==◌, not, ◌&&◌, List, [], ◌∷◌, length, get_or, Bool, sym, ap, ◌∙◌, arith}
use Rattle.std.specs.Prelude.{All, filter}
use Rattle.std.specs.Ordering.{nat_cmp, is_lt}
use Rattle.std.specs.List.Sorted.{IsNonDecreasingBy, ties, IsStableByKey}
use Rattle.std.proofs.lemmas.Bool.Decides.{nat_tests}
use Rattle.run_model.specs.Stamps.{Pairwise}

abbrev pub Each : {A : Type 0} → (A → Type 0) → List A → Type 0
Each P [] = Unit {0}
Each P (x ∷ xs) = P x × Each P xs

-- each element stands so to each later one
abbrev pub Ordered : {A : Type 0} → (A → A → Type 0) → List A → Type 0
Ordered R [] = Unit {0}
Ordered R (x ∷ xs) = Each (R x) xs × Ordered R xs

module _ {A : Type 0} where
  pub each : (P : A → Type 0) (xs : List A) → All P xs → Each P xs
  each P [] h = tt
  each P (x ∷ xs) h = (h 0 x (omega arith), each P xs (λ k d less. h (suc k) d (omega arith)))

  pub all : (P : A → Type 0) (xs : List A) → Each P xs → All P xs
  all P [] h k d less = absurd (omega arith)
  all P (x ∷ xs) h zero d less = h.0
  all P (x ∷ xs) h (suc k) d less = all P xs h.1 k d (omega arith)

  pub ordered : (R : A → A → Type 0) (xs : List A) → Pairwise R xs → Ordered R xs
  ordered R [] h = tt
  ordered R (x ∷ xs) h = (each (R x) xs h.0, ordered R xs h.1)

  pub pairwise : (R : A → A → Type 0) (xs : List A) → Ordered R xs → Pairwise R xs
  pairwise R [] h = tt
  pairwise R (x ∷ xs) h = (all (R x) xs h.0, pairwise R xs h.1)

module _ {A : Type 0} (key : A → ℕ) where
  abbrev pub NotAbove : A → A → Type 0
  NotAbove a b = key a ≤ key b

  each_above : (b : ℕ) (xs : List A) → ((j : ℕ) (d : A) → j < length xs → b ≤ key (get_or xs j d)) → Each (λ y. b ≤ key y) xs
  each_above b [] h = tt
  each_above b (x ∷ xs) h = (h 0 x (omega arith), each_above b xs (λ j d less. h (suc j) d (omega arith)))

  pub rises : (xs : List A) → IsNonDecreasingBy key xs → Ordered NotAbove xs
  rises [] h = tt
  rises (x ∷ xs) h = (each_above (key x) xs (λ j d less. h 0 (suc j) d (omega arith) (omega arith)), rises xs (λ i j d a b. h (suc i) (suc j) d (omega arith) (omega arith)))

  pub risen : (xs : List A) → Ordered NotAbove xs → IsNonDecreasingBy key xs
  risen [] h i j d a b = absurd (omega arith)
  risen (x ∷ xs) h zero zero d a b = omega arith
  risen (x ∷ xs) h zero (suc j) d a b = all (λ y. key x ≤ key y) xs h.0 j d (omega arith)
  risen (x ∷ xs) h (suc i) zero d a b = absurd (omega arith)
  risen (x ∷ xs) h (suc i) (suc j) d a b = risen xs h.1 i j d (omega arith) (omega arith)

  ties_is : (a b : ℕ) → (not (is_lt (nat_cmp a b)) && not (is_lt (nat_cmp b a))) ≡ (b == a)
  ties_is a b = grind (arith, nat_tests)

  -- a stable sort keeps what ties as it stood
  pub stable : (xs ys : List A) → IsStableByKey key nat_cmp xs ys → (s : ℕ) (x : A) → key x ≡ s → filter (λ y. key y == s) ys ≡ filter (λ y. key y == s) xs
  stable xs ys kept s x is =
      let test : (zs : List A) → filter (λ y. key y == s) zs ≡ filter (ties (λ a b. is_lt (nat_cmp (key a) (key b))) x) zs =
      λ zs. ap (λ (p : A → Bool). filter p zs) (λ i y. (ap (λ n. key y == n) (sym is) ∙ sym (ties_is (key x) (key y))) i) in
      test ys ∙ kept x ∙ sym (test xs)
