-- Paths in order, of which two that are one are neighbours.
use Rattle.std.proofs.Common.{◌≡◌, ℕ, ◌+◌, ◌<◌, ◌≤◌, ◌&&◌, ◌||◌, Bool, true, false, cond, zero, suc, List, [], ◌∷◌, length, get_or, map, refl, sym, ap, subst, ◌∙◌, arith}
use Rattle.std.proofs.lemmas.Bool.{and_parts, and_from, or_parts, or_from, not-true, eq-eqb, false_from_ne_true}
use mathlib.Core.Bool.{true≢false}
use Rattle.std.proofs.lemmas.List.Sums.{sum_by-cons}
use Rattle.std.proofs.lemmas.List.Sorted.{IsPermutation-map, sum_by-IsPermutation, ranks_by, sorted_far}
use Rattle.std.specs.Prelude.{not}
use Rattle.std.specs.List.{list_any, count_by, All, AllAdjacentBelow, IsAllAdjacentAnswer}
use Rattle.std.specs.List.Sorted.{IsPermutation, IsSortedBy}
use Rattle.std.specs.Ordering.{nat_cmp, ordering_reverse, is_eq, is_lt}
use Rattle.std.specs.declared.cmp.Ordering.{Ordering}
use Rattle.std.specs.declared.cmp.Ordering.TheVariants.{Less, Equal, Greater}
use Rattle.std.specs.Cmp.{tied_then}
use Rattle.std.specs.Cmp.Lexicographic.{slice_cmp, nat_list_cmp_total}
use denote.Ref.{Bor}
use Rattle.net_text.specs.Lexing.{Text, same}
use Rattle.net_text.specs.Lines.{are_distinct}
use Rattle.net_text.specs.Repeating.{path_in, AreInOrder}
use Rattle.net_text.proofs.AddingLemmas.{same_true}
use Rattle.net_text.proofs.EntryLemmas.{same_number}

-- lists of numbers that compare as equal are the same
pub same_list : (xs ys : List ℕ) → is_eq (slice_cmp nat_cmp xs ys) ≡ same xs ys
same_list [] [] = refl
same_list [] (y ∷ ys) = refl
same_list (x ∷ xs) [] = refl
same_list (x ∷ xs) (y ∷ ys) = sym (tied_then (nat_cmp x y) (slice_cmp nat_cmp xs ys)) ∙ rw (same_number x y, same_list xs ys) refl

same_self : (p : List ℕ) → same p p ≡ true
same_self [] = refl
same_self (x ∷ xs) =
    let here = eq-eqb x x refl in
    rw (here, same_self xs) refl

-- ---- paths in another order

counted_on : (p x : List ℕ) (xs : List (List ℕ)) → count_by (same p) (x ∷ xs) ≡ cond (same p x) 1 0 + count_by (same p) xs
counted_on p x xs = sum_by-cons (λ y. cond (same p y) 1 0) x xs

none_counted : (p : List ℕ) (xs : List (List ℕ)) → list_any (same p) xs ≡ false → count_by (same p) xs ≡ 0
none_counted p [] e = refl
none_counted p (x ∷ xs) e = by_case (none_counted p xs) (same p x) refl
  where
    by_case : (list_any (same p) xs ≡ false → count_by (same p) xs ≡ 0) → (b : Bool) → same p x ≡ b → count_by (same p) (x ∷ xs) ≡ 0
    by_case more true s = absurd (true≢false (rw s at e))
    by_case more false s =
        let here = counted_on p x xs ∙ ap (λ b. cond b 1 0 + count_by (same p) xs) s in
        let rest = more (rw s at e) in
        omega (arith, here, rest)

some_counted : (p : List ℕ) (xs : List (List ℕ)) → list_any (same p) xs ≡ true → 1 ≤ count_by (same p) xs
some_counted p [] e = absurd cc
some_counted p (x ∷ xs) e = by_case (some_counted p xs) (same p x) refl
  where
    by_case : (list_any (same p) xs ≡ true → 1 ≤ count_by (same p) xs) → (b : Bool) → same p x ≡ b → 1 ≤ count_by (same p) (x ∷ xs)
    by_case more true s = let here = counted_on p x xs ∙ ap (λ b. cond b 1 0 + count_by (same p) xs) s in omega (arith, here)
    by_case more false s =
        let here = counted_on p x xs ∙ ap (λ b. cond b 1 0 + count_by (same p) xs) s in
        let rest = more (rw s at e) in
        omega (arith, here, rest)

-- of distinct paths each comes once at most
once : (xs : List (List ℕ)) → are_distinct xs ≡ true → (p : List ℕ) → count_by (same p) xs ≤ 1
once [] d p = omega arith
once (x ∷ xs) d p =
    let both = and_parts (not (list_any (same x) xs)) (are_distinct xs) d in
    by_case both.0 (once xs both.1 p) (same p x) refl
  where
    by_case : not (list_any (same x) xs) ≡ true → count_by (same p) xs ≤ 1 → (b : Bool) → same p x ≡ b → count_by (same p) (x ∷ xs) ≤ 1
    by_case apart more true s =
        let here = counted_on p x xs ∙ ap (λ b. cond b 1 0 + count_by (same p) xs) s in
        let none = none_counted p xs (subst (λ (q : List ℕ). list_any (same q) xs ≡ false) (sym (same_true p x s)) (not-true (list_any (same x) xs) apart)) in
        omega (arith, here, none)
    by_case apart more false s =
        let here = counted_on p x xs ∙ ap (λ b. cond b 1 0 + count_by (same p) xs) s in
        omega (arith, here, more)

-- of others one comes twice
twice : (xs : List (List ℕ)) → are_distinct xs ≡ false → (p : List ℕ) × (2 ≤ count_by (same p) xs)
twice [] d = absurd cc
twice (x ∷ xs) d = by_case (twice xs) (list_any (same x) xs) refl
  where
    by_case : (are_distinct xs ≡ false → (p : List ℕ) × (2 ≤ count_by (same p) xs)) → (b : Bool) → list_any (same x) xs ≡ b → (p : List ℕ) × (2 ≤ count_by (same p) (x ∷ xs))
    by_case more true e =
        let here = counted_on x x xs ∙ ap (λ b. cond b 1 0 + count_by (same x) xs) (same_self x) in
        let rest = some_counted x xs e in
        (x, omega (arith, here, rest))
    by_case more false e =
        let rest = more (rw e at d) in
        let here = counted_on rest.0 x xs in
        (rest.0, omega (arith, here, rest.1))

unalike : (xs ys : List (List ℕ)) → IsPermutation xs ys → (b c : Bool) → are_distinct xs ≡ b → are_distinct ys ≡ c → c ≡ b
unalike xs ys p true true d e = refl
unalike xs ys p false false d e = refl
unalike xs ys p true false d e =
    let two = twice ys e in
    let one = once xs d two.0 in
    let alike = sum_by-IsPermutation (λ y. cond (same two.0 y) 1 0) xs ys p in
    absurd (omega (arith, two.1, one, alike))
unalike xs ys p false true d e =
    let two = twice xs d in
    let one = once ys e two.0 in
    let alike = sum_by-IsPermutation (λ y. cond (same two.0 y) 1 0) xs ys p in
    absurd (omega (arith, two.1, one, alike))

pub distinct_moved : (xs ys : List (Bor Text)) → IsPermutation xs ys → are_distinct (map path_in ys) ≡ are_distinct (map path_in xs)
distinct_moved xs ys p = unalike (map path_in xs) (map path_in ys) (IsPermutation-map path_in xs ys p) _ _ refl refl

-- ---- paths in order

one_on : {X : Type 0} (x : X) (xs : List X) (k : ℕ) (d : X) → get_or (x ∷ xs) (suc k + 1) d ≡ get_or xs (k + 1) d
one_on x xs k d =
    let e : suc k + 1 ≡ suc (k + 1) = omega arith in
    ap (λ n. get_or (x ∷ xs) n d) e

none_before : (p : List ℕ) (xs : List (Bor Text)) → All (λ y. is_lt (slice_cmp nat_cmp (path_in y) p) ≡ false) xs → list_any (λ q. is_lt (slice_cmp nat_cmp q p)) (map path_in xs) ≡ false
none_before p [] h = refl
none_before p (x ∷ xs) h = ap (λ b. b || list_any (λ q. is_lt (slice_cmp nat_cmp q p)) (map path_in xs)) (h 0 x (omega arith)) ∙ none_before p xs (λ k d l. h (suc k) d (omega arith))

not_itself : (p : List ℕ) → is_lt (slice_cmp nat_cmp p p) ≡ false
not_itself p = by_order (slice_cmp nat_cmp p p) (same_list p p ∙ same_self p)
  where
    by_order : (o : Ordering) → is_eq o ≡ true → is_lt o ≡ false
    by_order Less e = absurd cc
    by_order Equal e = refl
    by_order Greater e = refl

and_false : (a b : Bool) → b ≡ false → (a && b) ≡ false
and_false true b e = e
and_false false b e = refl

-- what a sort leaves
pub in_order : (xs : List (Bor Text)) → IsSortedBy (λ x y. is_lt (slice_cmp nat_cmp (path_in x) (path_in y))) xs → AreInOrder (map path_in xs)
in_order [] s = tt
in_order (x ∷ xs) s = (
  none_before (path_in x) xs (λ k d l. sorted_far (λ a b. is_lt (slice_cmp nat_cmp (path_in a) (path_in b))) (ranks_by nat_list_cmp_total path_in) (x ∷ xs) s 0 (suc k) d (omega arith) (omega arith)),
  in_order xs (λ k d low high.
      subst (λ y. is_lt (slice_cmp nat_cmp (path_in y) (path_in (get_or xs k d))) ≡ false) (one_on x xs k d) (s (suc k) d (omega arith) (omega arith))),
)

-- a path before another is none of those that do not come before the other
apart : (p q : List ℕ) (xs : List (List ℕ)) → is_lt (slice_cmp nat_cmp p q) ≡ true → list_any (λ r. is_lt (slice_cmp nat_cmp r q)) xs ≡ false → list_any (same p) xs ≡ false
apart p q [] l n = refl
apart p q (x ∷ xs) l n =
    let both = or_parts (is_lt (slice_cmp nat_cmp x q)) (list_any (λ r. is_lt (slice_cmp nat_cmp r q)) xs) n in
    or_from (same p x) (list_any (same p) xs)
    (false_from_ne_true (same p x) (λ t. true≢false (sym l ∙ ap (λ r. is_lt (slice_cmp nat_cmp r q)) (same_true p x t) ∙ both.0)))
    (apart p q xs l both.1)

-- two paths of which neither comes before the other are one
tied : (p q : List ℕ) (o : Ordering) → slice_cmp nat_cmp p q ≡ o → is_lt o ≡ false → is_lt (slice_cmp nat_cmp q p) ≡ false → same p q ≡ true
tied p q Less e l b = absurd cc
tied p q Equal e l b = sym (same_list p q) ∙ ap is_eq e
tied p q Greater e l b = absurd (true≢false (sym (ap is_lt (nat_list_cmp_total.antisymm q p ∙ ap ordering_reverse e)) ∙ b))

rising_apart : (xs : List (Bor Text)) → AreInOrder (map path_in xs) → AllAdjacentBelow (λ x y. true ≡ is_lt (slice_cmp nat_cmp (path_in x) (path_in y))) xs (length xs) → are_distinct (map path_in xs) ≡ true
rising_apart [] o h = refl
rising_apart (x ∷ []) o h = refl
rising_apart (x ∷ y ∷ zs) o h =
    let here = sym (h 0 x (omega arith)) in
    let none = apart (path_in x) (path_in y) (map path_in (y ∷ zs)) here (or_from (is_lt (slice_cmp nat_cmp (path_in y) (path_in y))) _ (not_itself (path_in y)) o.1.0) in
    and_from (not (list_any (same (path_in x)) (map path_in (y ∷ zs)))) (are_distinct (map path_in (y ∷ zs))) (ap not none)
    (rising_apart (y ∷ zs) o.1 (λ k d l.
    subst (λ z. true ≡ is_lt (slice_cmp nat_cmp (path_in (get_or (y ∷ zs) k d)) (path_in z))) (one_on x (y ∷ zs) k d) (h (suc k) d (omega arith))))

tied_twice : (xs : List (Bor Text)) (k : ℕ) → AreInOrder (map path_in xs) → k + 1 < length xs → ((d : Bor Text) → false ≡ is_lt (slice_cmp nat_cmp (path_in (get_or xs k d)) (path_in (get_or xs (k + 1) d)))) → are_distinct (map path_in xs) ≡ false
tied_twice [] k o l h = absurd (omega arith)
tied_twice (x ∷ []) k o l h = absurd (omega (arith, l))
tied_twice (x ∷ y ∷ zs) zero o l h =
    let first = (or_parts (is_lt (slice_cmp nat_cmp (path_in y) (path_in x))) _ o.0).0 in
    let one = tied (path_in x) (path_in y) _ refl (sym (h x)) first in
    ap (λ b. not (b || list_any (same (path_in x)) (map path_in zs)) && are_distinct (map path_in (y ∷ zs))) one
tied_twice (x ∷ y ∷ zs) (suc k) o l h =
    and_false (not (list_any (same (path_in x)) (map path_in (y ∷ zs)))) (are_distinct (map path_in (y ∷ zs))) (tied_twice (y ∷ zs) k o.1 (omega (arith, l))
    (λ d. subst (λ z. false ≡ is_lt (slice_cmp nat_cmp (path_in (get_or (y ∷ zs) k d)) (path_in z))) (one_on x (y ∷ zs) k d) (h d)))

-- where each stands before the next, no two are one; else two neighbours are
pub neighbours : (xs : List (Bor Text)) (r : Bool) → AreInOrder (map path_in xs) → IsAllAdjacentAnswer (λ x y b. b ≡ is_lt (slice_cmp nat_cmp (path_in x) (path_in y))) xs r → r ≡ are_distinct (map path_in xs)
neighbours xs true o h = sym (rising_apart xs o h)
neighbours xs false o h = sym (tied_twice xs h.0 o h.1 h.2)
