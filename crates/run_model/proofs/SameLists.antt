-- Two lists with the same groups, each in an order that the other cannot turn round, are one.
use Rattle.std.proofs.Common.{◌≡◌, ℕ, ◌==◌, ◌⊎◌, inl, inr, ⊎_elim, Bool, true, false, List, [], ◌∷◌, refl, sym, ap, ◌∙◌, subst}
use Rattle.std.specs.Prelude.{filter}
use Rattle.std.proofs.lemmas.Bool.{eq-eqb, eqb-true}
use Rattle.run_model.proofs.Pairs.{Each, Ordered}

pub decide : (b : Bool) → (b ≡ true) ⊎ (b ≡ false)
decide true = inl refl
decide false = inr refl

module _ {X : Type 0} where
  pub filter_keeps : (p : X → Bool) (x : X) (xs : List X) → p x ≡ true → filter p (x ∷ xs) ≡ x ∷ filter p xs
  filter_keeps p x xs e = rw e refl

  pub filter_drops : (p : X → Bool) (x : X) (xs : List X) → p x ≡ false → filter p (x ∷ xs) ≡ filter p xs
  filter_drops p x xs e = rw e refl

  -- what holds of each holds of the first that a filter leaves
  pub first_kept : (P : X → Type 0) (p : X → Bool) (xs : List X) (y : X) (ys : List X) → Each P xs → filter p xs ≡ y ∷ ys → P y
  first_kept P p [] y ys h e = cc
  first_kept P p (x ∷ xs) y ys h e =
      ⊎_elim
      (λ (t : p x ≡ true). let f : x ∷ filter p xs ≡ y ∷ ys = sym (filter_keeps p x xs t) ∙ e in let same : x ≡ y = cc in subst P same h.0)
      (λ (t : p x ≡ false). first_kept P p xs y ys h.1 (sym (filter_drops p x xs t) ∙ e))
      (decide (p x))

  pub each_kept : (P : X → Type 0) (p : X → Bool) (xs : List X) → Each P xs → Each P (filter p xs)
  each_kept P p [] e = tt
  each_kept P p (x ∷ xs) e =
      ⊎_elim
      (λ (t : p x ≡ true). subst (Each P) (sym (filter_keeps p x xs t)) (e.0, each_kept P p xs e.1))
      (λ (f : p x ≡ false). subst (Each P) (sym (filter_drops p x xs f)) (each_kept P p xs e.1))
      (decide (p x))

  pub ordered_kept : (R : X → X → Type 0) (p : X → Bool) (xs : List X) → Ordered R xs → Ordered R (filter p xs)
  ordered_kept R p [] r = tt
  ordered_kept R p (x ∷ xs) r =
      ⊎_elim
      (λ (t : p x ≡ true). subst (Ordered R) (sym (filter_keeps p x xs t)) (each_kept (R x) p xs r.0, ordered_kept R p xs r.1))
      (λ (f : p x ≡ false). subst (Ordered R) (sym (filter_drops p x xs f)) (ordered_kept R p xs r.1))
      (decide (p x))

  pub each_map : (P Q : X → Type 0) (xs : List X) → ((x : X) → P x → Q x) → Each P xs → Each Q xs
  each_map P Q [] f e = tt
  each_map P Q (x ∷ xs) f e = (f x e.0, each_map P Q xs f e.1)

  pub ordered_map : (R S : X → X → Type 0) (xs : List X) → ((x y : X) → R x y → S x y) → Ordered R xs → Ordered S xs
  ordered_map R S [] f r = tt
  ordered_map R S (x ∷ xs) f r = (each_map (R x) (S x) xs (f x) r.0, ordered_map R S xs f r.1)

module _ {X : Type 0} (group : X → ℕ) (R S : X → X → Type 0) (apart : (x y : X) → R x y → S y x → group x ≡ group y) where
  abbrev group_of : ℕ → List X → List X
  group_of k xs = filter (λ x. group x == k) xs

  own : (x : X) (xs : List X) → group_of (group x) (x ∷ xs) ≡ x ∷ group_of (group x) xs
  own x xs = filter_keeps (λ y. group y == group x) x xs (eq-eqb (group x) (group x) refl)

  -- the first elements are of one group
  heads : (x : X) (xs : List X) (y : X) (ys : List X) → Ordered R (x ∷ xs) → Ordered S (y ∷ ys) → ((k : ℕ) → group_of k (x ∷ xs) ≡ group_of k (y ∷ ys)) → group x ≡ group y
  heads x xs y ys r s same =
      ⊎_elim (λ (t : (group y == group x) ≡ true). sym (eqb-true (group y) (group x) t))
      (λ (f : (group y == group x) ≡ false).
      ⊎_elim (λ (t : (group x == group y) ≡ true). eqb-true (group x) (group y) t)
      (λ (g : (group x == group y) ≡ false).
      let a : x ∷ group_of (group x) xs ≡ group_of (group x) ys = sym (own x xs) ∙ same (group x) ∙ filter_drops (λ z. group z == group x) y ys f in
      let b : group_of (group y) xs ≡ y ∷ group_of (group y) ys = sym (filter_drops (λ z. group z == group y) x xs g) ∙ same (group y) ∙ own y ys in
      apart x y (first_kept (R x) (λ z. group z == group y) xs y (group_of (group y) ys) r.0 b)
      (first_kept (S y) (λ z. group z == group x) ys x (group_of (group x) xs) s.0 (sym a)))
      (decide (group x == group y)))
      (decide (group y == group x))

  pub same_lists : (xs ys : List X) → Ordered R xs → Ordered S ys → ((k : ℕ) → group_of k xs ≡ group_of k ys) → xs ≡ ys
  same_lists [] [] r s same = refl
  same_lists [] (y ∷ ys) r s same = let e : [] ≡ y ∷ group_of (group y) ys = same (group y) ∙ own y ys in cc
  same_lists (x ∷ xs) [] r s same = let e : x ∷ group_of (group x) xs ≡ [] = sym (own x xs) ∙ same (group x) in cc
  same_lists (x ∷ xs) (y ∷ ys) r s same =
      let one : group x ≡ group y = heads x xs y ys r s same in
      let e : x ∷ group_of (group x) xs ≡ y ∷ group_of (group x) ys =
      sym (own x xs) ∙ same (group x) ∙ filter_keeps (λ z. group z == group x) y ys (eq-eqb (group y) (group x) (sym one)) in
      let front : x ≡ y = cc in
      let rest : (k : ℕ) → group_of k xs ≡ group_of k ys =
      λ k. ⊎_elim
      (λ (t : (group x == k) ≡ true).
      let u : (group y == k) ≡ true = ap (λ n. n == k) (sym one) ∙ t in
      let f : x ∷ group_of k xs ≡ y ∷ group_of k ys = sym (filter_keeps (λ z. group z == k) x xs t) ∙ same k ∙ filter_keeps (λ z. group z == k) y ys u in
      let g : group_of k xs ≡ group_of k ys = cc in g)
      (λ (t : (group x == k) ≡ false).
      let u : (group y == k) ≡ false = ap (λ n. n == k) (sym one) ∙ t in
      sym (filter_drops (λ z. group z == k) x xs t) ∙ same k ∙ filter_drops (λ z. group z == k) y ys u)
      (decide (group x == k)) in
      λ i. front i ∷ same_lists xs ys r.1 s.1 rest i
