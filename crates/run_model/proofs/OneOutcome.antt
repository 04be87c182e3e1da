-- A snapshot comes out in one way.
use Rattle.std.proofs.Common.{◌≡◌, ℕ, ◌<◌, ◌⊎◌, inl, inr, true, List, [], ◌∷◌, ◌++◌, length, refl, sym, ap, ◌∙◌, subst, arith}
use Rattle.std.proofs.lemmas.Bool.{cases_order}
use mathlib.Core.List.{IsPrefix}
use Rattle.run_model.specs.Routes.{Network}
use Rattle.run_model.specs.Offers.{Cause, Offer, Lost, IsIn, Made, made_of, made_for, IsDeciding, Why, Pending, InFlight, Mismatch, Precedes, Waiting, Abandoned, Moving, Settled, Shows, OutcomeIsOne}
use Rattle.run_model.proofs.Beginnings.{shorter_begins, both_empty}
use Rattle.run_model.proofs.OutcomeFacts.{in_right}

module _ {A : Type 0} where
  -- a list up to one of its elements
  up_to : (x : A) (xs : List A) → IsIn x xs → (before : List A) × IsPrefix (before ++ x ∷ []) xs
  up_to x [] h = absurd h
  up_to x (y ∷ ys) (inl e) = ([], (ys, λ i. e i ∷ ys))
  up_to x (y ∷ ys) (inr h) = let t = up_to x ys h in (y ∷ t.0, (t.1.0, ap (λ l. y ∷ l) t.1.1))

  same_end : (x y : A) (xs ys : List A) → xs ++ x ∷ [] ≡ ys ++ y ∷ [] → x ≡ y
  same_end x y [] [] e = cc
  same_end x y [] (z ∷ ys) e =
      let f : x ∷ [] ≡ z ∷ (ys ++ y ∷ []) = e in
      let none : ys ++ y ∷ [] ≡ [] = cc in
      let k : y ∷ [] ≡ [] = (both_empty ys (y ∷ []) none).1 in cc
  same_end x y (z ∷ xs) [] e =
      let f : z ∷ (xs ++ x ∷ []) ≡ y ∷ [] = e in
      let none : xs ++ x ∷ [] ≡ [] = cc in
      let k : x ∷ [] ≡ [] = (both_empty xs (x ∷ []) none).1 in cc
  same_end x y (z ∷ xs) (w ∷ ys) e =
      let f : z ∷ (xs ++ x ∷ []) ≡ w ∷ (ys ++ y ∷ []) = e in
      let rest : xs ++ x ∷ [] ≡ ys ++ y ∷ [] = cc in
      same_end x y xs ys rest

-- of two faults, one is looked for first
why_order : (a b : Why) → (a ≡ b) ⊎ (Precedes a b ⊎ Precedes b a)
why_order Pending Pending = inl refl
why_order Pending (InFlight w) = inr (inl tt)
why_order Pending (Mismatch w) = inr (inl tt)
why_order (InFlight v) Pending = inr (inr tt)
why_order (InFlight v) (InFlight w) = by_peer (cases_order v w)
  where
    by_peer : (v ≡ w) ⊎ ((v < w) ⊎ (w < v)) → (InFlight v ≡ InFlight w) ⊎ ((v < w) ⊎ (w < v))
    by_peer (inl e) = inl (ap (λ i. InFlight i) e)
    by_peer (inr h) = inr h
why_order (InFlight v) (Mismatch w) = inr (inl tt)
why_order (Mismatch v) Pending = inr (inr tt)
why_order (Mismatch v) (InFlight w) = inr (inr tt)
why_order (Mismatch v) (Mismatch w) = by_peer (cases_order v w)
  where
    by_peer : (v ≡ w) ⊎ ((v < w) ⊎ (w < v)) → (Mismatch v ≡ Mismatch w) ⊎ ((v < w) ⊎ (w < v))
    by_peer (inl e) = inl (ap (λ i. Mismatch i) e)
    by_peer (inr h) = inr h

module _ {M P W : Type 0} (g : Network M P W) (s : ℕ) where
  one_front : (all xs ys : List (Made M P W)) → IsDeciding g s xs all → IsDeciding g s ys all → xs ≡ ys
  one_front all xs ys d e = by_length (cases_order (length xs) (length ys))
    where
      by_length : (length xs ≡ length ys) ⊎ ((length xs < length ys) ⊎ (length ys < length xs)) → xs ≡ ys
      by_length (inl h) = e.2 xs (shorter_begins xs ys all d.0 e.0 (omega arith)) d.1
      by_length (inr (inl h)) = e.2 xs (shorter_begins xs ys all d.0 e.0 (omega arith)) d.1
      by_length (inr (inr h)) = sym (d.2 ys (shorter_begins ys xs all e.0 d.0 (omega arith)) e.1)

  -- a Lost in a deciding beginning stands at its end
  lost_at_end : (all front : List (Made M P W)) → IsDeciding g s front all → (u v e : ℕ) (cause : Cause) → IsIn (made_of u (Lost s v e cause)) front
      → (before : List (Made M P W)) × (before ++ made_of u (Lost s v e cause) ∷ [] ≡ front)
  lost_at_end all front d u v e cause h =
      let lost : Made M P W = made_of u (Lost s v e cause) in
      let t = up_to lost front h in
      (t.0, d.2 (t.0 ++ lost ∷ []) t.1 (inl (u, v, e, cause, in_right lost t.0 (lost ∷ []) (inl refl))))

  one_lost : (all front : List (Made M P W)) → IsDeciding g s front all → (u v e : ℕ) (cause : Cause) (u' v' e' : ℕ) (cause' : Cause)
      → IsIn (made_of u (Lost s v e cause)) front → IsIn (made_of u' (Lost s v' e' cause')) front → Abandoned u v e cause ≡ Abandoned u' v' e' cause'
  one_lost all front d u v e cause u' v' e' cause' h h' =
      let a = lost_at_end all front d u v e cause h in
      let b = lost_at_end all front d u' v' e' cause' h' in
      let lost : Offer M P W = Lost s v e cause in
      let lost' : Offer M P W = Lost s v' e' cause' in
      let same : made_of u lost ≡ made_of u' lost' = same_end (made_of u lost) (made_of u' lost') a.0 b.0 (a.1 ∙ sym b.1) in
      let router : u ≡ u' = ap (λ (m : Made M P W). m.router) same in
      let offer : lost ≡ lost' = ap (λ (m : Made M P W). m.offer) same in
      cc

  -- the first fault of the least router
  abbrev IsFirst : List (Made M P W) → ℕ → Why → Type 0
  IsFirst front u why =
      (g.routers u ≡ true) × Shows g s front u why
      × ((w : ℕ) → w < u → g.routers w ≡ true → (other : Why) → Shows g s front w other → ⊥)
      × ((other : Why) → Precedes other why → Shows g s front u other → ⊥)

  one_why : (front : List (Made M P W)) (u : ℕ) (a b : Why) → IsFirst front u a → IsFirst front u b → a ≡ b
  one_why front u a b p q = by_order (why_order a b)
    where
      by_order : (a ≡ b) ⊎ (Precedes a b ⊎ Precedes b a) → a ≡ b
      by_order (inl e) = e
      by_order (inr (inl h)) = absurd (q.3 a h p.1)
      by_order (inr (inr h)) = absurd (p.3 b h q.1)

  one_fault : (front : List (Made M P W)) (u w : ℕ) (a b : Why) → IsFirst front u a → IsFirst front w b → Moving u a ≡ Moving w b
  one_fault front u w a b p q = by_router (cases_order u w)
    where
      by_router : (u ≡ w) ⊎ ((u < w) ⊎ (w < u)) → Moving u a ≡ Moving w b
      by_router (inl e) = let f = one_why front u a b p (subst (λ i. IsFirst front i b) (sym e) q) in λ i. Moving (e i) (f i)
      by_router (inr (inl h)) = absurd (q.2 u h p.0 a p.1)
      by_router (inr (inr h)) = absurd (p.2 w h q.0 b q.1)

module _ {M P W : Type 0} where
  pub outcome_is_one : OutcomeIsOne M P W
  outcome_is_one g s made Waiting Waiting p q = refl
  outcome_is_one g s made Waiting (Abandoned u v e cause) p q = absurd (p q.0 q.1.0 q.1.1)
  outcome_is_one g s made Waiting (Moving u why) p q = absurd (p q.0 q.1.0 q.1.1)
  outcome_is_one g s made Waiting Settled p q = absurd (p q.0 q.1.0 q.1.1)
  outcome_is_one g s made (Abandoned u v e cause) Waiting p q = absurd (q p.0 p.1.0 p.1.1)
  outcome_is_one g s made (Abandoned u v e cause) (Abandoned u' v' e' cause') p q =
      let f = one_front g s (made_for s made) q.0 p.0 q.1 p.1 in
      one_lost g s (made_for s made) p.0 p.1 u v e cause u' v' e' cause' p.2 (subst (IsIn (made_of u' (Lost s v' e' cause'))) f q.2)
  outcome_is_one g s made (Abandoned u v e cause) (Moving w why) p q =
      let f = one_front g s (made_for s made) p.0 q.0 p.1 q.1 in
      absurd (q.2 u v e cause (subst (IsIn (made_of u (Lost s v e cause))) f p.2))
  outcome_is_one g s made (Abandoned u v e cause) Settled p q =
      let f = one_front g s (made_for s made) p.0 q.0 p.1 q.1 in
      absurd (q.2 u v e cause (subst (IsIn (made_of u (Lost s v e cause))) f p.2))
  outcome_is_one g s made (Moving u why) Waiting p q = absurd (q p.0 p.1.0 p.1.1)
  outcome_is_one g s made (Moving w why) (Abandoned u v e cause) p q =
      let f = one_front g s (made_for s made) q.0 p.0 q.1 p.1 in
      absurd (p.2 u v e cause (subst (IsIn (made_of u (Lost s v e cause))) f q.2))
  outcome_is_one g s made (Moving u a) (Moving w b) p q =
      let f = one_front g s (made_for s made) q.0 p.0 q.1 p.1 in
      one_fault g s p.0 u w a b (p.3, p.4, p.5, p.6) (subst (λ l. IsFirst g s l w b) f (q.3, q.4, q.5, q.6))
  outcome_is_one g s made (Moving u why) Settled p q =
      let f = one_front g s (made_for s made) p.0 q.0 p.1 q.1 in
      absurd (q.3 u p.3 why (subst (λ l. Shows g s l u why) f p.4))
  outcome_is_one g s made Settled Waiting p q = absurd (q p.0 p.1.0 p.1.1)
  outcome_is_one g s made Settled (Abandoned u v e cause) p q =
      let f = one_front g s (made_for s made) q.0 p.0 q.1 p.1 in
      absurd (p.2 u v e cause (subst (IsIn (made_of u (Lost s v e cause))) f q.2))
  outcome_is_one g s made Settled (Moving u why) p q =
      let f = one_front g s (made_for s made) q.0 p.0 q.1 p.1 in
      absurd (p.3 u q.3 why (subst (λ l. Shows g s l u why) f q.4))
  outcome_is_one g s made Settled Settled p q = refl
