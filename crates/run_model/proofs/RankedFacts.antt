-- The stable assignments of two known instances, by what router 3 has.
use Rattle.std.proofs.Common.{◌≡◌, ℕ, ◌==◌, Bool, true, false, cond, [], ◌∷◌, refl, ap, sym, ◌∙◌, arith, subst, inl, inr, ◌⊎◌}
use Rattle.run_model.specs.Routes.{IsStableAssignment}
use Rattle.run_model.specs.RankedExamples.{Path, same_path, one_of, by_number, disagree, ring, from_1, DisagreeHasTwo, RingHasNone}
use Rattle.std.proofs.lemmas.Bool.Decides.{nat_tests}

at_number : (Q : ℕ → Type 0) (u k : ℕ) → (u == k) ≡ true → Q k → Q u
at_number Q u k is p = let same : k ≡ u = grind (arith, nat_tests, is) in subst Q same p

three : (Q : ℕ → Type 0) → Q 1 → Q 2 → Q 3 → (u : ℕ) → one_of (1 ∷ 2 ∷ 3 ∷ []) u ≡ true → Q u
three Q a b c u r = at_1 (u == 1) refl r
  where
    at_3 : (x : Bool) → (u == 3) ≡ x → cond x true false ≡ true → Q u
    at_3 true is r = at_number Q u 3 is c
    at_3 false is r = absurd (cc r)

    at_2 : (x : Bool) → (u == 2) ≡ x → cond x true (cond (u == 3) true false) ≡ true → Q u
    at_2 true is r = at_number Q u 2 is b
    at_2 false is r = at_3 (u == 3) refl r

    at_1 : (x : Bool) → (u == 1) ≡ x → cond x true (cond (u == 2) true (cond (u == 3) true false)) ≡ true → Q u
    at_1 true is r = at_number Q u 1 is a
    at_1 false is r = at_2 (u == 2) refl r

-- which of the two ways router 2 takes, and what follows
two_ways : (path : ℕ → Path) → IsStableAssignment disagree 7 from_1 path → (b : Bool) → same_path (path 3) (3 ∷ 1 ∷ []) ≡ b
    → ((path 2 ≡ 2 ∷ 3 ∷ 1 ∷ []) × (path 3 ≡ 3 ∷ 1 ∷ [])) ⊎ ((path 2 ≡ 2 ∷ 1 ∷ []) × (path 3 ≡ 3 ∷ 2 ∷ 1 ∷ []))
two_ways path stable true is =
    let one : path 1 ≡ 1 ∷ [] = stable 1 refl in
    let two : path 2 ≡ 2 ∷ 3 ∷ 1 ∷ [] = stable 2 refl ∙ rw is refl in
    let three' : path 3 ≡ 3 ∷ 1 ∷ [] = stable 3 refl ∙ rw (two, one) refl in
    inl (two, three')
two_ways path stable false is =
    let one : path 1 ≡ 1 ∷ [] = stable 1 refl in
    let two : path 2 ≡ 2 ∷ 1 ∷ [] = stable 2 refl ∙ rw (is, one) refl in
    let three' : path 3 ≡ 3 ∷ 2 ∷ 1 ∷ [] = stable 3 refl ∙ rw two refl in
    inr (two, three')

pub disagree_has_two : DisagreeHasTwo
disagree_has_two = (
  three (λ u. by_number (1 ∷ []) (2 ∷ 3 ∷ 1 ∷ []) (3 ∷ 1 ∷ []) [] u ≡ disagree.best u 7 (from_1 u) (λ v. cond (disagree.linked u v) (by_number (1 ∷ []) (2 ∷ 3 ∷ 1 ∷ []) (3 ∷ 1 ∷ []) [] v) disagree.no_path)) refl refl refl,
  three (λ u. by_number (1 ∷ []) (2 ∷ 1 ∷ []) (3 ∷ 2 ∷ 1 ∷ []) [] u ≡ disagree.best u 7 (from_1 u) (λ v. cond (disagree.linked u v) (by_number (1 ∷ []) (2 ∷ 1 ∷ []) (3 ∷ 2 ∷ 1 ∷ []) [] v) disagree.no_path)) refl refl refl,
  (λ path stable. (stable 1 refl, two_ways path stable (same_path (path 3) (3 ∷ 1 ∷ [])) refl)),
)

no_way : (path : ℕ → Path) → IsStableAssignment ring 7 from_1 path → (b : Bool) → same_path (path 3) (3 ∷ 1 ∷ []) ≡ b → ⊥
no_way path stable true is =
    let one : path 1 ≡ 1 ∷ [] = stable 1 refl in
    let two : path 2 ≡ 2 ∷ 3 ∷ 1 ∷ [] = stable 2 refl ∙ rw is refl in
    let four : path 4 ≡ 4 ∷ 1 ∷ [] = stable 4 refl ∙ rw (two, one) refl in
    let three' : path 3 ≡ 3 ∷ 4 ∷ 1 ∷ [] = stable 3 refl ∙ rw four refl in
    let not : false ≡ true = ap (λ i. same_path i (3 ∷ 1 ∷ [])) (sym three') ∙ is in cc not
no_way path stable false is =
    let one : path 1 ≡ 1 ∷ [] = stable 1 refl in
    let two : path 2 ≡ 2 ∷ 1 ∷ [] = stable 2 refl ∙ rw (is, one) refl in
    let four : path 4 ≡ 4 ∷ 2 ∷ 1 ∷ [] = stable 4 refl ∙ rw two refl in
    let three' : path 3 ≡ 3 ∷ 1 ∷ [] = stable 3 refl ∙ rw (four, one) refl in
    let not : true ≡ false = ap (λ i. same_path i (3 ∷ 1 ∷ [])) (sym three') ∙ is in cc not

pub ring_has_none : RingHasNone
ring_has_none path stable = no_way path stable (same_path (path 3) (3 ∷ 1 ∷ [])) refl
