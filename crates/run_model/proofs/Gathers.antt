-- Sorting keeps journals.
use Rattle.std.proofs.Common.{◌≡◌, ℕ, ◌≤◌, ◌<◌, ◌==◌, inl, inr, ⊎_elim, Bool, true, false, List, [], ◌∷◌, refl, sym, ap, ◌∙◌, subst, arith}
use Rattle.std.specs.Prelude.{filter}
use Rattle.std.proofs.lemmas.Bool.{eq-eqb, eqb-true}
use Rattle.std.proofs.lemmas.Bool.Decides.{nat_tests}
use Rattle.std.specs.Ordering.{nat_cmp}
use Rattle.std.specs.List.Sorted.{IsStableByKey}
use Rattle.run_model.specs.Gathering.{ComesBefore, entries_of, SortingByStampGathers, SortingByStampThenRouterGathers, GatheredIsOne, GatheredStampsRise}
use Rattle.run_model.proofs.Pairs.{Each, Ordered, NotAbove, ordered, pairwise, rises, risen, stable}
use Rattle.run_model.proofs.SameLists.{decide, filter_keeps, filter_drops, ordered_kept, ordered_map, same_lists}

module _ {X : Type 0} where
  swapped_by : (p q : X → Bool) (x : X) (xs : List X) → filter p (filter q xs) ≡ filter q (filter p xs) → (a b : Bool) → p x ≡ a → q x ≡ b
      → filter p (filter q (x ∷ xs)) ≡ filter q (filter p (x ∷ xs))
  swapped_by p q x xs h true true e f =
      ap (filter p) (filter_keeps q x xs f) ∙ filter_keeps p x (filter q xs) e ∙ ap (λ l. x ∷ l) h ∙ sym (filter_keeps q x (filter p xs) f) ∙ ap (filter q) (sym (filter_keeps p x xs e))
  swapped_by p q x xs h true false e f = ap (filter p) (filter_drops q x xs f) ∙ h ∙ sym (filter_drops q x (filter p xs) f) ∙ ap (filter q) (sym (filter_keeps p x xs e))
  swapped_by p q x xs h false true e f = ap (filter p) (filter_keeps q x xs f) ∙ filter_drops p x (filter q xs) e ∙ h ∙ ap (filter q) (sym (filter_drops p x xs e))
  swapped_by p q x xs h false false e f = ap (filter p) (filter_drops q x xs f) ∙ h ∙ ap (filter q) (sym (filter_drops p x xs e))

  pub filters_swap : (p q : X → Bool) (xs : List X) → filter p (filter q xs) ≡ filter q (filter p xs)
  filters_swap p q [] = refl
  filters_swap p q (x ∷ xs) = swapped_by p q x xs (filters_swap p q xs) (p x) (q x) refl refl

module _ {X : Type 0} (stamp router : X → ℕ) where
  no_turning : (a b : X) → ComesBefore stamp router a b → ComesBefore stamp router b a → router a ≡ router b
  no_turning a b (inl h) (inl k) = absurd (omega arith)
  no_turning a b (inl h) (inr k) = let e = k.0 in absurd (omega arith)
  no_turning a b (inr h) (inl k) = let e = h.0 in absurd (omega arith)
  no_turning a b (inr h) (inr k) = let e = h.1 in let f = k.1 in omega arith

  pub gathered_is_one : GatheredIsOne stamp router
  gathered_is_one all first second a b =
      same_lists router (ComesBefore stamp router) (ComesBefore stamp router) no_turning first second (ordered (ComesBefore stamp router) first a.in_order) (ordered (ComesBefore stamp router) second b.in_order) (λ u. a.journals u ∙ sym (b.journals u))

  by_stamp : (a b : X) → ComesBefore stamp router a b → stamp a ≤ stamp b
  by_stamp a b (inl h) = omega arith
  by_stamp a b (inr h) = let e = h.0 in omega arith

  apart_by : (key : X → ℕ) (a b : X) → key a ≤ key b → key b ≤ key a → key a ≡ key b
  apart_by key a b h k = omega arith

  pub sorting_by_both : SortingByStampThenRouterGathers stamp router
  sorting_by_both all sorted rise order same =
      record {
        in_order = order;
        journals = λ u.
            same_lists stamp (λ a b. stamp a ≤ stamp b) (λ a b. stamp a ≤ stamp b) (apart_by stamp) (entries_of stamp router u sorted) (entries_of stamp router u all)
            (ordered_kept (λ a b. stamp a ≤ stamp b) (λ e. router e == u) sorted (ordered_map (ComesBefore stamp router) (λ a b. stamp a ≤ stamp b) sorted by_stamp (ordered (ComesBefore stamp router) sorted order)))
            (rises stamp (entries_of stamp router u all) (rise u)) (λ s. same s u);
      }

  class_head : (s : ℕ) (xs : List X) (y : X) (ys : List X) → filter (λ x. stamp x == s) xs ≡ y ∷ ys → stamp y ≡ s
  class_head s [] y ys e = cc
  class_head s (x ∷ xs) y ys e =
      ⊎_elim
      (λ (t : (stamp x == s) ≡ true).
      let f : x ∷ filter (λ z. stamp z == s) xs ≡ y ∷ ys = sym (filter_keeps (λ z. stamp z == s) x xs t) ∙ e in
      let same : x ≡ y = cc in
      ap stamp (sym same) ∙ eqb-true (stamp x) s t)
      (λ (t : (stamp x == s) ≡ false). class_head s xs y ys (sym (filter_drops (λ z. stamp z == s) x xs t) ∙ e))
      (decide (stamp x == s))

  -- what a stable sort keeps of each stamp, also of one that no line has
  classes_by : (all sorted : List X) → IsStableByKey stamp nat_cmp all sorted → (s : ℕ) (a b : List X) → filter (λ x. stamp x == s) sorted ≡ a → filter (λ x. stamp x == s) all ≡ b
      → filter (λ x. stamp x == s) sorted ≡ filter (λ x. stamp x == s) all
  classes_by all sorted keeps s (y ∷ a) b e f = stable stamp all sorted keeps s y (class_head s sorted y a e)
  classes_by all sorted keeps s [] (x ∷ b) e f = stable stamp all sorted keeps s x (class_head s all x b f)
  classes_by all sorted keeps s [] [] e f = e ∙ sym f

  classes : (all sorted : List X) → IsStableByKey stamp nat_cmp all sorted → (s : ℕ) → filter (λ x. stamp x == s) sorted ≡ filter (λ x. stamp x == s) all
  classes all sorted keeps s = classes_by all sorted keeps s (filter (λ x. stamp x == s) sorted) (filter (λ x. stamp x == s) all) refl refl

  strictly : (a b : ℕ) → a ≤ b → (b == a) ≡ false → a < b
  strictly a b h f = grind (arith, nat_tests, h, f)

  -- what comes later comes later, or ties and is of no lower router
  later_by : (x : X) (ys : List X) → Each (λ y. stamp x ≤ stamp y) ys → Each (λ y. router x ≤ router y) (filter (λ y. stamp y == stamp x) ys) → Each (ComesBefore stamp router x) ys
  later_by x [] s r = tt
  later_by x (y ∷ ys) s r =
      ⊎_elim
      (λ (t : (stamp y == stamp x) ≡ true).
      let e : stamp y ≡ stamp x = eqb-true (stamp y) (stamp x) t in
      let r' = subst (Each (λ z. router x ≤ router z)) (filter_keeps (λ z. stamp z == stamp x) y ys t) r in
      let now : ComesBefore stamp router x y = inr (sym e, r'.0) in
      (now, later_by x ys s.1 r'.1))
      (λ (f : (stamp y == stamp x) ≡ false).
      let r' = subst (Each (λ z. router x ≤ router z)) (filter_drops (λ z. stamp z == stamp x) y ys f) r in
      let now : ComesBefore stamp router x y = inl (strictly (stamp x) (stamp y) s.0 f) in
      (now, later_by x ys s.1 r'))
      (decide (stamp y == stamp x))

  tail_rises : (s : ℕ) (y : X) (ys : List X) → Ordered (NotAbove router) (filter (λ z. stamp z == s) (y ∷ ys)) → Ordered (NotAbove router) (filter (λ z. stamp z == s) ys)
  tail_rises s y ys r =
      ⊎_elim
      (λ (t : (stamp y == s) ≡ true). (subst (Ordered (NotAbove router)) (filter_keeps (λ z. stamp z == s) y ys t) r).1)
      (λ (f : (stamp y == s) ≡ false). subst (Ordered (NotAbove router)) (filter_drops (λ z. stamp z == s) y ys f) r)
      (decide (stamp y == s))

  in_order : (ys : List X) → Ordered (NotAbove stamp) ys → ((s : ℕ) → Ordered (NotAbove router) (filter (λ z. stamp z == s) ys)) → Ordered (ComesBefore stamp router) ys
  in_order [] r ties = tt
  in_order (y ∷ ys) r ties =
      let own = subst (Ordered (NotAbove router)) (filter_keeps (λ z. stamp z == stamp y) y ys (eq-eqb (stamp y) (stamp y) refl)) (ties (stamp y)) in
      (later_by y ys r.0 own.0, in_order ys r.1 (λ s. tail_rises s y ys (ties s)))

  pub sorting_by_stamp : SortingByStampGathers stamp router
  sorting_by_stamp all sorted rows rise sorts keeps =
      let up = rises stamp sorted sorts in
      let ties = classes all sorted keeps in
      record {
        in_order = pairwise (ComesBefore stamp router) sorted
            (in_order sorted up (λ s. subst (Ordered (NotAbove router)) (sym (ties s)) (ordered_kept (NotAbove router) (λ e. stamp e == s) all (rises router all rows))));
        journals = λ u.
            same_lists stamp (NotAbove stamp) (NotAbove stamp) (apart_by stamp) (entries_of stamp router u sorted) (entries_of stamp router u all)
            (ordered_kept (NotAbove stamp) (λ e. router e == u) sorted up)
            (rises stamp (entries_of stamp router u all) (rise u))
            (λ s. filters_swap (λ e. stamp e == s) (λ e. router e == u) sorted ∙ ap (filter (λ e. router e == u)) (ties s) ∙ sym (filters_swap (λ e. stamp e == s) (λ e. router e == u) all));
      }

  pub gathered_rises : GatheredStampsRise stamp router
  gathered_rises all gathered is = risen stamp gathered (ordered_map (ComesBefore stamp router) (NotAbove stamp) gathered by_stamp (ordered (ComesBefore stamp router) gathered is.in_order))
