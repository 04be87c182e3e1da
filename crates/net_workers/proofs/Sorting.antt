-- Events can be sorted: each is put in front of the first whose stamp is not below its own.
use Rattle.std.proofs.Common.{◌≡◌, ◌∙◌, ℕ, zero, suc, ◌≤◌, ◌<◌, ◌==◌, ◌⊎◌, inl, inr, ⊎_elim, Bool, true, false, cond, not, ◌&&◌, List, [], ◌∷◌, length, get_or, refl, sym, ap, arith}
use Rattle.std.specs.Prelude.{filter}
use Rattle.std.specs.Ordering.{nat_cmp, is_lt}
use Rattle.std.specs.List.Sorted.{IsNonDecreasingBy, ties, IsStableByKey}
use Rattle.std.proofs.lemmas.Bool.Decides.{nat_tests}
use Rattle.worker_loop.specs.declared.journal.WorkerEvent.{WorkerEvent}
use Rattle.net_workers.specs.Gathered.{IsSorted, EventsCanBeSorted}

decide : (b : Bool) → (b ≡ true) ⊎ (b ≡ false)
decide true = inl refl
decide false = inr refl

is_below : (a b : ℕ) → is_lt (nat_cmp a b) ≡ true → a < b
is_below a b e = grind (arith, nat_tests, e)

not_below : (a b : ℕ) → is_lt (nat_cmp a b) ≡ false → b ≤ a
not_below a b e = grind (arith, nat_tests, e)

tie_is : (a b : ℕ) → (not (is_lt (nat_cmp a b)) && not (is_lt (nat_cmp b a))) ≡ (b == a)
tie_is a b = grind (arith, nat_tests)

-- of two that differ at most one is this
one_of_two : (a b c : ℕ) → b < a → (a == c) ≡ true → (b == c) ≡ false
one_of_two a b c less e = grind (arith, nat_tests, less, e)

module _ {X : Type 0} where
  -- two of which a test has one at most may stand either way
  swapped : (p : X → Bool) (x y : X) (l : List X) → (p x ≡ true → p y ≡ false) → filter p (y ∷ x ∷ l) ≡ filter p (x ∷ y ∷ l)
  swapped p x y l apart =
      ⊎_elim
      (λ (t : p x ≡ true). rw (t, apart t) refl)
      (λ (f : p x ≡ false). rw f refl)
      (decide (p x))

module _ {X : Type 0} (key : X → ℕ) where
  abbrev AtLeast : ℕ → List X → Type 0
  AtLeast n [] = Unit {0}
  AtLeast n (x ∷ xs) = (n ≤ key x) × AtLeast n xs

  abbrev Rises : List X → Type 0
  Rises [] = Unit {0}
  Rises (x ∷ xs) = AtLeast (key x) xs × Rises xs

  at_least : (n : ℕ) (xs : List X) → AtLeast n xs → (j : ℕ) (d : X) → j < length xs → n ≤ key (get_or xs j d)
  at_least n [] h j d less = absurd (omega arith)
  at_least n (x ∷ xs) h zero d less = h.0
  at_least n (x ∷ xs) h (suc j) d less = at_least n xs h.1 j d (omega arith)

  risen : (xs : List X) → Rises xs → IsNonDecreasingBy key xs
  risen [] h i j d a b = absurd (omega arith)
  risen (x ∷ xs) h zero zero d a b = omega arith
  risen (x ∷ xs) h zero (suc j) d a b = at_least (key x) xs h.0 j d (omega arith)
  risen (x ∷ xs) h (suc i) zero d a b = absurd (omega arith)
  risen (x ∷ xs) h (suc i) (suc j) d a b = risen xs h.1 i j d (omega arith) (omega arith)

  less_than : (n m : ℕ) (xs : List X) → n ≤ m → AtLeast m xs → AtLeast n xs
  less_than n m [] le h = tt
  less_than n m (x ∷ xs) le h = ((let e = h.0 in omega (arith, le, e)), less_than n m xs le h.1)

  abbrev put : X → List X → List X
  put x [] = x ∷ []
  put x (y ∷ ys) = cond (is_lt (nat_cmp (key y) (key x))) (y ∷ put x ys) (x ∷ y ∷ ys)

  abbrev sort : List X → List X
  sort [] = []
  sort (x ∷ xs) = put x (sort xs)

  at_least_put : (n : ℕ) (x : X) (ys : List X) → n ≤ key x → AtLeast n ys → AtLeast n (put x ys)
  at_least_put n x [] le h = (le, tt)
  at_least_put n x (y ∷ ys) le h =
      ⊎_elim
      (λ (t : is_lt (nat_cmp (key y) (key x)) ≡ true). rw t (h.0, at_least_put n x ys le h.1))
      (λ (f : is_lt (nat_cmp (key y) (key x)) ≡ false). rw f (le, h))
      (decide (is_lt (nat_cmp (key y) (key x))))

  rises_put : (x : X) (ys : List X) → Rises ys → Rises (put x ys)
  rises_put x [] h = (tt, tt)
  rises_put x (y ∷ ys) h =
      ⊎_elim
      (λ (t : is_lt (nat_cmp (key y) (key x)) ≡ true).
      let less = is_below (key y) (key x) t in
      rw t (at_least_put (key y) x ys (omega (arith, less)) h.0, rises_put x ys h.1))
      (λ (f : is_lt (nat_cmp (key y) (key x)) ≡ false).
      let le = not_below (key y) (key x) f in
      rw f ((le, less_than (key x) (key y) ys le h.0), h))
      (decide (is_lt (nat_cmp (key y) (key x))))

  rises_sort : (xs : List X) → Rises (sort xs)
  rises_sort [] = tt
  rises_sort (x ∷ xs) = rises_put x (sort xs) (rises_sort xs)

  abbrev tie : X → X → Bool
  tie = ties (λ a b. is_lt (nat_cmp (key a) (key b)))

  apart : (z x y : X) → is_lt (nat_cmp (key y) (key x)) ≡ true → tie z x ≡ true → tie z y ≡ false
  apart z x y less t = tie_is (key z) (key y) ∙ one_of_two (key x) (key y) (key z) (is_below (key y) (key x) less) (sym (tie_is (key z) (key x)) ∙ t)

  stable_put : (z x : X) (ys : List X) → filter (tie z) (put x ys) ≡ filter (tie z) (x ∷ ys)
  stable_put z x [] = refl
  stable_put z x (y ∷ ys) =
      ⊎_elim
      (λ (t : is_lt (nat_cmp (key y) (key x)) ≡ true).
      ap (λ b. filter (tie z) (cond b (y ∷ put x ys) (x ∷ y ∷ ys))) t ∙ ap (λ l. cond (tie z y) (y ∷ l) l) (stable_put z x ys) ∙ swapped (tie z) x y ys (apart z x y t))
      (λ (f : is_lt (nat_cmp (key y) (key x)) ≡ false). ap (λ b. filter (tie z) (cond b (y ∷ put x ys) (x ∷ y ∷ ys))) f)
      (decide (is_lt (nat_cmp (key y) (key x))))

  stable_sort : (xs : List X) → IsStableByKey key nat_cmp xs (sort xs)
  stable_sort [] z = refl
  stable_sort (x ∷ xs) z = stable_put z x (sort xs) ∙ ap (λ l. cond (tie z x) (x ∷ l) l) (stable_sort xs z)

pub events_can_be_sorted : EventsCanBeSorted
events_can_be_sorted all =
    let by = λ (e : WorkerEvent). e.stamp in
    let is : IsSorted all (sort by all) = record { rising = risen by (sort by all) (rises_sort by all); stable = stable_sort by all } in
    (sort by all, is)
