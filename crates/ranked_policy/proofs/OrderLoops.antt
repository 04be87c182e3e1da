-- Loops that compare two paths, place by place.
use Rattle.std.proofs.Common.{◌≡◌, ℕ, ◌+◌, ◌<◌, ◌≤◌, true, false, List, ◌∷◌, length, get_or, drop, refl, sym, ap, subst, ◌∙◌, arith, inl, inr, IsTrue, ltb}
use Rattle.std.specs.Prelude.{◌↔◌}
use Rattle.std.proofs.lemmas.List.{drop_more, drop_all}
use Rattle.std.proofs.lemmas.Bool.{false≢true, ltb-true, lt-ltb}
use Rattle.ranked_policy.specs.Orders.{ComesFirst, ComesEarlier}
use Rattle.ranked_policy.specs.Laws.{Above, above_from_first, first_from_above, Earlier, earlier_from_comes, comes_from_earlier}

drop_one : (paths : List (List ℕ)) (i : ℕ) (p : List ℕ) → i < length paths → p ≡ get_or paths i p → drop i paths ≡ p ∷ drop (i + 1) paths
drop_one paths i p l read = drop_more paths i p l ∙ ap (λ x. x ∷ drop (i + 1) paths) (sym read)

-- the second path comes first
pub first_no : (paths : List (List ℕ)) (a b : List ℕ) (i : ℕ) (p : List ℕ) → i < length paths → p ≡ get_or paths i p → p ≡ b → Above paths a b ↔ Above (drop i paths) a b → IsTrue false ↔ ComesFirst paths a b
first_no paths a b i p l read is_b h =
    (λ t. absurd (false≢true t), λ first. let here : Above (p ∷ drop (i + 1) paths) a b = subst (λ ps. Above ps a b) (drop_one paths i p l read) (h.0 (above_from_first paths a b first)) in absurd (here.0 is_b))

-- the first path comes where the second has not
pub first_yes : (paths : List (List ℕ)) (a b : List ℕ) (i : ℕ) (p : List ℕ) → i < length paths → p ≡ get_or paths i p → (p ≡ b → ⊥) → p ≡ a → Above paths a b ↔ Above (drop i paths) a b → IsTrue true ↔ ComesFirst paths a b
first_yes paths a b i p l read not_b is_a h =
    (λ t. first_from_above paths a b (h.1 (subst (λ ps. Above ps a b) (sym (drop_one paths i p l read)) (not_b, inl is_a))), λ first. refl)

-- neither comes
pub first_none : (paths : List (List ℕ)) (a b : List ℕ) (i : ℕ) → length paths ≤ i → Above paths a b ↔ Above (drop i paths) a b → IsTrue false ↔ ComesFirst paths a b
first_none paths a b i l h =
    (λ t. absurd (false≢true t), λ first. absurd (subst (λ ps. Above ps a b) (drop_all i paths l) (h.0 (above_from_first paths a b first))))

head_and_rest : (xs : List ℕ) (i : ℕ) → i < length xs → drop i xs ≡ get_or xs i 0 ∷ drop (i + 1) xs
head_and_rest xs i l = drop_more xs i 0 l

smaller_head : (x y : ℕ) (xs ys : List ℕ) → (x ≡ y → ⊥) → Earlier (x ∷ xs) (y ∷ ys) → x < y
smaller_head x y xs ys differ h = elim h [ inl l ↦ l | inr r ↦ absurd (differ r.0) ]

-- the numbers differ here
pub earlier_here : (a b : List ℕ) (i : ℕ) → i < length a → length a ≡ length b → (get_or a i 0 ≡ get_or b i 0 → ⊥) → Earlier a b ↔ Earlier (drop i a) (drop i b) → IsTrue (ltb (get_or a i 0) (get_or b i 0)) ↔ ComesEarlier a b
earlier_here a b i l same differ h =
    let x = get_or a i 0 in
    let y = get_or b i 0 in
    let first : drop i a ≡ x ∷ drop (i + 1) a = head_and_rest a i l in
    let second : drop i b ≡ y ∷ drop (i + 1) b = head_and_rest b i (omega (arith, l, same)) in
    let to : Earlier (drop i a) (drop i b) → Earlier (x ∷ drop (i + 1) a) (y ∷ drop (i + 1) b) = λ e. subst (λ q. Earlier q (y ∷ drop (i + 1) b)) first (subst (Earlier (drop i a)) second e) in
    let back : Earlier (x ∷ drop (i + 1) a) (y ∷ drop (i + 1) b) → Earlier (drop i a) (drop i b) = λ e. subst (λ q. Earlier q (drop i b)) (sym first) (subst (Earlier (x ∷ drop (i + 1) a)) (sym second) e) in (
      λ t. comes_from_earlier a b (h.1 (back (inl (ltb-true x y t)))),
      λ e. lt-ltb x y (smaller_head x y (drop (i + 1) a) (drop (i + 1) b) differ (to (h.0 (earlier_from_comes a b e)))),
    )

-- they differ nowhere
pub earlier_nowhere : (a b : List ℕ) (i : ℕ) → length a ≤ i → Earlier a b ↔ Earlier (drop i a) (drop i b) → IsTrue false ↔ ComesEarlier a b
earlier_nowhere a b i l h =
    (λ t. absurd (false≢true t), λ e. absurd (subst (λ q. Earlier q (drop i b)) (drop_all i a l) (h.0 (earlier_from_comes a b e))))
