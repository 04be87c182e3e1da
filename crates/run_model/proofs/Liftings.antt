-- A list whose journals rise can be gathered, and so what stands beside gathered lines is gathered with them.
use Rattle.std.proofs.Common.{◌≡◌, ℕ, ◌≤◌, ◌<◌, ◌==◌, ◌⊎◌, inl, inr, ⊎_elim, if◌then◌else◌, Bool, true, false, List, [], ◌∷◌, refl, sym, ap, ◌∙◌, subst, arith}
use Rattle.std.specs.Prelude.{filter, map, ltb}
use Rattle.std.proofs.lemmas.Bool.{eq-eqb, eqb-true, ltb-true, ltb-false}
use Rattle.run_model.specs.Gathering.{ComesBefore, entries_of, JournalsRise, IsGathered, GatheringLifts}
use Rattle.run_model.proofs.Pairs.{Each, Ordered, NotAbove, ordered, pairwise, rises, risen}
use Rattle.run_model.proofs.SameLists.{decide, filter_keeps, filter_drops, each_map}
use Rattle.run_model.proofs.Gathers.{gathered_is_one}

never : (b : Bool) → b ≡ true → b ≡ false → ⊥
never true e f = cc
never false e f = cc

module _ {X : Type 0} where
  -- what holds of each that passes a filter
  each_unfiltered : (P : X → Type 0) (p : X → Bool) (xs : List X) → Each P (filter p xs) → Each (λ x. p x ≡ true → P x) xs
  each_unfiltered P p [] h = tt
  each_unfiltered P p (x ∷ xs) h =
      ⊎_elim
      (λ (t : p x ≡ true). let h' = subst (Each P) (filter_keeps p x xs t) h in ((λ is. h'.0), each_unfiltered P p xs h'.1))
      (λ (t : p x ≡ false). ((λ is. absurd (never (p x) is t)), each_unfiltered P p xs (subst (Each P) (filter_drops p x xs t) h)))
      (decide (p x))

module _ {X : Type 0} (stamp router : X → ℕ) where
  abbrev Before : X → X → Type 0
  Before a b = ComesBefore stamp router a b

  -- strictly before
  abbrev Ahead : X → X → Type 0
  Ahead a b = (stamp a < stamp b) ⊎ ((stamp a ≡ stamp b) × (router a < router b))

  before_or_ahead : (a b : X) → Before a b ⊎ Ahead b a
  before_or_ahead a b =
      ⊎_elim (λ (t : ltb (stamp a) (stamp b) ≡ true). inl (inl (ltb-true (stamp a) (stamp b) t)))
      (λ (f : ltb (stamp a) (stamp b) ≡ false).
      let above = ltb-false (stamp a) (stamp b) f in
      ⊎_elim (λ (t : ltb (stamp b) (stamp a) ≡ true). inr (inl (ltb-true (stamp b) (stamp a) t)))
      (λ (g : ltb (stamp b) (stamp a) ≡ false).
      let below = ltb-false (stamp b) (stamp a) g in
      let same : stamp a ≡ stamp b = omega arith in
      ⊎_elim (λ (t : ltb (router b) (router a) ≡ true). inr (inr (sym same, ltb-true (router b) (router a) t)))
      (λ (h : ltb (router b) (router a) ≡ false). inl (inr (same, ltb-false (router b) (router a) h)))
      (decide (ltb (router b) (router a))))
      (decide (ltb (stamp b) (stamp a))))
      (decide (ltb (stamp a) (stamp b)))

  ahead_before : (a b : X) → Ahead a b → Before a b
  ahead_before a b (inl h) = inl h
  ahead_before a b (inr h) = let less = h.1 in inr (h.0, omega arith)

  before_trans : (a b c : X) → Before a b → Before b c → Before a c
  before_trans a b c (inl h) (inl k) = inl (omega arith)
  before_trans a b c (inl h) (inr k) = let e = k.0 in inl (omega arith)
  before_trans a b c (inr h) (inl k) = let e = h.0 in inl (omega arith)
  before_trans a b c (inr h) (inr k) = let e = h.1 in let f = k.1 in inr (h.0 ∙ k.0, omega arith)

  not_its_own : (x y : X) → Ahead y x → (router y ≡ router x → stamp x ≤ stamp y) → router y ≡ router x → ⊥
  not_its_own x y (inl h) own same = let k = own same in absurd (omega arith)
  not_its_own x y (inr h) own same = let k = h.1 in absurd (omega arith)

  -- a line, put where it belongs: what holds of it and of each holds of each then, and each router's own stand as before
  pub record Inserted (x : X) (ys zs : List X) : Type 1 where
    pub in_order : Ordered Before zs
    pub own : (u : ℕ) → entries_of stamp router u zs ≡ entries_of stamp router u (x ∷ ys)
    pub each : (Q : X → Type 0) → Q x → Each Q ys → Each Q zs

  own_kept : (x y : X) (ys zs : List X) (u : ℕ) (b c : Bool) → (router x == u) ≡ b → (router y == u) ≡ c → (router y ≡ router x → ⊥)
      → entries_of stamp router u zs ≡ entries_of stamp router u (x ∷ ys) → entries_of stamp router u (y ∷ zs) ≡ entries_of stamp router u (x ∷ y ∷ ys)
  own_kept x y ys zs u true true p q apart e = absurd (apart (eqb-true (router y) u q ∙ sym (eqb-true (router x) u p)))
  own_kept x y ys zs u true false p q apart e = simp (p, q) (simp p at e)
  own_kept x y ys zs u false true p q apart e = simp (p, q) (ap (λ l. y ∷ l) (simp p at e))
  own_kept x y ys zs u false false p q apart e = simp (p, q) (simp p at e)

  insert : (x : X) (ys : List X) → Ordered Before ys → Each (λ y. router y ≡ router x → stamp x ≤ stamp y) ys → (zs : List X) × Inserted x ys zs
  insert x [] o h = (x ∷ [], record { in_order = (tt, tt); own = λ u. refl; each = λ Q q e. (q, tt) })
  insert x (y ∷ ys) o h =
      ⊎_elim
      (λ (first : Before x y).
      let later : Each (Before x) ys = each_map (Before y) (Before x) ys (λ z k. before_trans x y z first k) o.0 in
      (x ∷ y ∷ ys, record { in_order = ((first, later), o); own = λ u. refl; each = λ Q q e. (q, e) }))
      (λ (ahead : Ahead y x).
      let rest = insert x ys o.1 h.1 in (
        y ∷ rest.0,
        record {
          in_order = (rest.1.each (Before y) (ahead_before y x ahead) o.0, rest.1.in_order);
          own = λ u. own_kept x y ys rest.0 u (router x == u) (router y == u) refl refl (not_its_own x y ahead h.0) (rest.1.own u);
          each = λ Q q e. (e.0, rest.1.each Q q e.1);
        },
      ))
      (before_or_ahead x y)

  -- each router's own in order, whatever the others are
  abbrev OwnOrdered : List X → Type 0
  OwnOrdered xs = (u : ℕ) → Ordered (NotAbove stamp) (entries_of stamp router u xs)

  own_rest : (u : ℕ) (x : X) (xs : List X) → Ordered (NotAbove stamp) (entries_of stamp router u (x ∷ xs)) → Ordered (NotAbove stamp) (entries_of stamp router u xs)
  own_rest u x xs o =
      ⊎_elim
      (λ (t : (router x == u) ≡ true). (subst (Ordered (NotAbove stamp)) (filter_keeps (λ y. router y == u) x xs t) o).1)
      (λ (t : (router x == u) ≡ false). subst (Ordered (NotAbove stamp)) (filter_drops (λ y. router y == u) x xs t) o)
      (decide (router x == u))

  own_first : (x : X) (xs : List X) → OwnOrdered (x ∷ xs) → Each (λ y. stamp x ≤ stamp y) (entries_of stamp router (router x) xs)
  own_first x xs o = (subst (Ordered (NotAbove stamp)) (filter_keeps (λ y. router y == router x) x xs (eq-eqb (router x) (router x) refl)) (o (router x))).0

  also : (x : X) (xs ys : List X) (u : ℕ) → entries_of stamp router u xs ≡ entries_of stamp router u ys → entries_of stamp router u (x ∷ xs) ≡ entries_of stamp router u (x ∷ ys)
  also x xs ys u e = ap (λ l. if router x == u then x ∷ l else l) e

  -- the list, gathered
  gather : (xs : List X) → OwnOrdered xs → (zs : List X) × Ordered Before zs × ((u : ℕ) → entries_of stamp router u zs ≡ entries_of stamp router u xs)
  gather [] o = ([], tt, (λ u. refl))
  gather (x ∷ xs) o =
      let rest = gather xs (λ u. own_rest u x xs (o u)) in
      let above : Each (λ y. router y ≡ router x → stamp x ≤ stamp y) rest.0 =
      each_map (λ y. (router y == router x) ≡ true → stamp x ≤ stamp y) (λ y. router y ≡ router x → stamp x ≤ stamp y) rest.0
      (λ y h same. h (eq-eqb (router y) (router x) same))
      (each_unfiltered (λ y. stamp x ≤ stamp y) (λ y. router y == router x) rest.0 (subst (Each (λ y. stamp x ≤ stamp y)) (sym (rest.2 (router x))) (own_first x xs o))) in
      let done = insert x rest.0 rest.1 above in
      (done.0, done.1.in_order, (λ u. done.1.own u ∙ also x rest.0 xs u (rest.2 u)))

  pub gathers : (xs : List X) → JournalsRise stamp router xs → (zs : List X) × IsGathered stamp router xs zs
  gathers xs rise =
      let g = gather xs (λ u. rises stamp (entries_of stamp router u xs) (rise u)) in
      (g.0, record { in_order = pairwise Before g.0 g.1; journals = g.2 })

module _ {X Y : Type 0} (f : X → Y) where
  filter_map : (p : Y → Bool) (xs : List X) → filter p (map f xs) ≡ map f (filter (λ x. p (f x)) xs)
  filter_map p [] = refl
  filter_map p (x ∷ xs) =
      ⊎_elim
      (λ (t : p (f x) ≡ true). filter_keeps p (f x) (map f xs) t ∙ ap (λ l. f x ∷ l) (filter_map p xs) ∙ ap (map f) (sym (filter_keeps (λ z. p (f z)) x xs t)))
      (λ (t : p (f x) ≡ false). filter_drops p (f x) (map f xs) t ∙ filter_map p xs ∙ ap (map f) (sym (filter_drops (λ z. p (f z)) x xs t)))
      (decide (p (f x)))

  each_mapped : (P : Y → Type 0) (xs : List X) → Each P (map f xs) → Each (λ x. P (f x)) xs
  each_mapped P [] h = tt
  each_mapped P (x ∷ xs) h = (h.0, each_mapped P xs h.1)

  map_each : (P : Y → Type 0) (xs : List X) → Each (λ x. P (f x)) xs → Each P (map f xs)
  map_each P [] h = tt
  map_each P (x ∷ xs) h = (h.0, map_each P xs h.1)

  ordered_mapped : (R : Y → Y → Type 0) (xs : List X) → Ordered R (map f xs) → Ordered (λ a b. R (f a) (f b)) xs
  ordered_mapped R [] h = tt
  ordered_mapped R (x ∷ xs) h = (each_mapped (R (f x)) xs h.0, ordered_mapped R xs h.1)

  map_ordered : (R : Y → Y → Type 0) (xs : List X) → Ordered (λ a b. R (f a) (f b)) xs → Ordered R (map f xs)
  map_ordered R [] h = tt
  map_ordered R (x ∷ xs) h = (map_each (R (f x)) xs h.0, map_ordered R xs h.1)

  module _ (stamp router : Y → ℕ) where
    abbrev stamp_of : X → ℕ
    stamp_of x = stamp (f x)

    abbrev router_of : X → ℕ
    router_of x = router (f x)

    rise_mapped : (xs : List X) → JournalsRise stamp router (map f xs) → JournalsRise stamp_of router_of xs
    rise_mapped xs rise u =
        risen stamp_of (entries_of stamp_of router_of u xs)
        (ordered_mapped (NotAbove stamp) (entries_of stamp_of router_of u xs)
        (subst (Ordered (NotAbove stamp)) (filter_map (λ y. router y == u) xs) (rises stamp (entries_of stamp router u (map f xs)) (rise u))))

    pub gathering_lifts : GatheringLifts f stamp router
    gathering_lifts all gathered rise is =
        let g = gathers stamp_of router_of all (rise_mapped all rise) in
        let here : IsGathered stamp router (map f all) (map f g.0) =
        record {
          in_order = pairwise (ComesBefore stamp router) (map f g.0) (map_ordered (ComesBefore stamp router) g.0 (ordered (ComesBefore stamp_of router_of) g.0 g.1.in_order));
          journals = λ u. filter_map (λ y. router y == u) g.0 ∙ ap (map f) (g.1.journals u) ∙ sym (filter_map (λ y. router y == u) all);
        } in
        (g.0, gathered_is_one stamp router (map f all) (map f g.0) gathered here is, g.1)
