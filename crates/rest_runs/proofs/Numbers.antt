-- Products, counts and sums, and how they fall.
use Rattle.std.proofs.Common.{◌≡◌, ℕ, zero, suc, ◌+◌, ◌<◌, ◌≤◌, ◌==◌, Bool, true, false, ◌&&◌, ◌||◌, List, [], ◌∷◌, length, refl, sym, ◌∙◌, ap, arith, inl, inr, get_or, Some}
use Rattle.std.specs.List.{find, list_any}
use Rattle.std.proofs.lemmas.Bool.{eq-eqb}
use mathlib.Core.Logic.{◌⊎◌}
use Rattle.rest_runs.specs.Resting.{sum_of}

abbrev pub times : ℕ → ℕ → ℕ
times zero c = 0
times (suc n) c = c + times n c

pub times_grows : (x y c : ℕ) → x < y → times x c + c ≤ times y c
times_grows x zero c less = absurd (omega (arith, less))
times_grows zero (suc y) c less = omega arith
times_grows (suc x) (suc y) c less = omega (arith, times_grows x y c (omega (arith, less)))

-- an element of a list
abbrev pub Among : {A : Type 0} → A → List A → Type 0
Among a [] = ⊥
Among a (x ∷ xs) = (x ≡ a) ⊎ Among a xs

pub own : (n : ℕ) → (n == n) ≡ true
own n = eq-eqb n n refl

pub both_true : (a b : Bool) → (a && b) ≡ true → (a ≡ true) × (b ≡ true)
both_true true b h = (refl, h)
both_true false b h = absurd cc

-- 1 if a test passes
abbrev pub one_if : Bool → ℕ
one_if true = 1
one_if false = 0

one_most : (b : Bool) → one_if b ≤ 1
one_most true = omega arith
one_most false = omega arith

one_below : (a b : Bool) → (a ≡ true → b ≡ true) → one_if a ≤ one_if b
one_below false b h = omega arith
one_below true b h = (let k = ap one_if (h refl) in omega (arith, k))

pub or_true : (b c : Bool) → c ≡ true → (b || c) ≡ true
or_true true c h = refl
or_true false c h = h

-- an element at a place
pub numbered : {A : Type 0} (xs : List A) (k : ℕ) (a : A) → k < length xs → get_or xs k a ≡ a → Among a xs
numbered [] k a less is = absurd (omega (arith, less))
numbered (x ∷ xs) zero a less is = inl is
numbered (x ∷ xs) (suc k) a less is = inr (numbered xs k a (omega (arith, less)) is)

-- how many pass a test
abbrev pub count : {A : Type 0} → (A → Bool) → List A → ℕ
count p [] = 0
count p (x ∷ xs) = one_if (p x) + count p xs

module _ {A : Type 0} where
  pub sum_below : (f h : A → ℕ) (k : ℕ) (xs : List A) → ((x : A) → Among x xs → f x ≤ h x + k) → sum_of f xs ≤ sum_of h xs + times (length xs) k
  sum_below f h k [] below = omega arith
  sum_below f h k (x ∷ xs) below = omega (arith, below x (inl refl), sum_below f h k xs (λ y i. below y (inr i)))

  pub sum_falls : (f h : A → ℕ) (k : ℕ) (xs : List A) → ((x : A) → Among x xs → f x ≤ h x + k) → (a : A) → Among a xs → (less : ℕ) → f a + less ≤ h a + k
      → sum_of f xs + less ≤ sum_of h xs + times (length xs) k
  sum_falls f h k [] below a i less falls = absurd i
  sum_falls f h k (x ∷ xs) below a (inl same) less falls =
      let here : f x + less ≤ h x + k = omega (arith, falls, ap f same, ap h same) in
      omega (arith, here, sum_below f h k xs (λ y i. below y (inr i)))
  sum_falls f h k (x ∷ xs) below a (inr i) less falls = omega (arith, below x (inl refl), sum_falls f h k xs (λ y j. below y (inr j)) a i less falls)

  pub sum_has : (f : A → ℕ) (xs : List A) (a : A) → Among a xs → f a ≤ sum_of f xs
  sum_has f [] a i = absurd i
  sum_has f (x ∷ xs) a (inl same) = omega (arith, ap f same)
  sum_has f (x ∷ xs) a (inr i) = omega (arith, sum_has f xs a i)

  pub count_most : (p : A → Bool) (xs : List A) → count p xs ≤ length xs
  count_most p [] = omega arith
  count_most p (x ∷ xs) = omega (arith, count_most p xs, one_most (p x))

  pub count_below : (p q : A → Bool) (xs : List A) → ((x : A) → p x ≡ true → q x ≡ true) → count p xs ≤ count q xs
  count_below p q [] below = omega arith
  count_below p q (x ∷ xs) below = omega (arith, one_below (p x) (q x) (below x), count_below p q xs below)

  -- the first that passes, passes no more
  found_at : (p q : A → Bool) (xs : List A) (x a : A) (b : Bool) → q x ≡ b → ((y : A) → p y ≡ true → q y ≡ true) → p a ≡ false → find q (x ∷ xs) ≡ Some a
      → (find q xs ≡ Some a → count p xs + 1 ≤ count q xs) → count p (x ∷ xs) + 1 ≤ count q (x ∷ xs)
  found_at p q xs x a true is below off found on =
      let same : x ≡ a = (let h : Some x ≡ Some a = rw is at found in cc h) in
      let none = ap one_if (ap p same ∙ off) in
      let one = ap one_if is in
      omega (arith, none, one, count_below p q xs below)
  found_at p q xs x a false is below off found on =
      let later : find q xs ≡ Some a = rw is at found in
      omega (arith, one_below (p x) (q x) (below x), on later)

  pub count_falls : (p q : A → Bool) (xs : List A) (a : A) → ((y : A) → p y ≡ true → q y ≡ true) → p a ≡ false → find q xs ≡ Some a → count p xs + 1 ≤ count q xs
  count_falls p q [] a below off found = absurd cc
  count_falls p q (x ∷ xs) a below off found = found_at p q xs x a (q x) refl below off found (count_falls p q xs a below off)

  found_in : (q : A → Bool) (xs : List A) (x a : A) (b : Bool) → q x ≡ b → find q (x ∷ xs) ≡ Some a → (find q xs ≡ Some a → Among a xs × (q a ≡ true)) → Among a (x ∷ xs) × (q a ≡ true)
  found_in q xs x a true is found on =
      let same : x ≡ a = (let h : Some x ≡ Some a = rw is at found in cc h) in
      (inl same, sym (ap q same) ∙ is)
  found_in q xs x a false is found on =
      let later : find q xs ≡ Some a = rw is at found in
      let k = on later in
      (inr k.0, k.1)

  pub found : (q : A → Bool) (xs : List A) (a : A) → find q xs ≡ Some a → Among a xs × (q a ≡ true)
  found q [] a f = absurd cc
  found q (x ∷ xs) a f = found_in q xs x a (q x) refl f (found q xs a)

  any_at : (q : A → Bool) (xs : List A) (x : A) (b : Bool) → q x ≡ b → list_any q (x ∷ xs) ≡ true → (list_any q xs ≡ true → (a : A) × Among a xs × (q a ≡ true)) → (a : A) × Among a (x ∷ xs) × (q a ≡ true)
  any_at q xs x true is h on = (x, inl refl, is)
  any_at q xs x false is h on =
      let later : list_any q xs ≡ true = rw is at h in
      let k = on later in
      (k.0, inr k.1, k.2)

  -- one that passes, if any does
  pub any_of : (q : A → Bool) (xs : List A) → list_any q xs ≡ true → (a : A) × Among a xs × (q a ≡ true)
  any_of q [] h = absurd cc
  any_of q (x ∷ xs) h = any_at q xs x (q x) refl h (any_of q xs)

  pub any_has : (q : A → Bool) (xs : List A) (a : A) → Among a xs → q a ≡ true → list_any q xs ≡ true
  any_has q [] a i is = absurd i
  any_has q (x ∷ xs) a (inl same) is = (let h : q x ≡ true = ap q same ∙ is in rw h refl)
  any_has q (x ∷ xs) a (inr i) is = or_true (q x) (list_any q xs) (any_has q xs a i is)
