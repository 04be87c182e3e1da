-- One router's journal beyond a cut: its early puts may all come first.
use Rattle.std.proofs.Common.{◌≡◌, ℕ, ◌≤◌, ◌<◌, ◌==◌, ◌⊎◌, inl, inr, ⊎_elim, Bool, true, false, not, List, [], ◌∷◌, ◌++◌, length, refl, sym, ap, ◌∙◌, subst, arith, length-append}
use Rattle.std.proofs.lemmas.Bool.{eq-eqb, eqb-true, ltb-true, ltb-false}
use Rattle.run_model.specs.Network.{Journal, Steps, Event, alone, puts, takes, offers, put_towards}
use Rattle.run_model.specs.Journals.{puts_towards, IsJournal}
use Rattle.run_model.specs.Exchange.{CanPut, PutsCommute}
use Rattle.run_model.proofs.Pairs.{Each}
use Rattle.run_model.specs.ThroughCut.{chosen, is_early}
use Rattle.run_model.proofs.SameLists.{decide}
use Rattle.run_model.proofs.OwnEvents.{puts_towards-append}
use Rattle.run_model.proofs.Exchanges.{can_still, swap}

module _ {Own Item Offer : Type 0} where
  -- a put in a direction where the other event puts nothing
  abbrev pub IsFree : Event Own Item Offer → Event Own Item Offer → Type 0
  IsFree e p = (v : ℕ) × (x : Item) × (p ≡ puts v x) × (put_towards v e ≡ [])

module _ {Own Item Offer : Type 0} (n : ℕ → ℕ) where
  abbrev pub early_of : Journal Own Item Offer → Journal Own Item Offer → Journal Own Item Offer
  early_of before es = chosen (is_early n) before es

  abbrev pub late_of : Journal Own Item Offer → Journal Own Item Offer → Journal Own Item Offer
  late_of before es = chosen (λ b e. not (is_early n b e)) before es

  -- the event puts nothing in a direction of which puts may still be early
  abbrev pub IsPast : Journal Own Item Offer → Event Own Item Offer → Type 0
  IsPast before e = (w : ℕ) → (put_towards w e ≡ []) ⊎ (n w ≤ length (puts_towards w before))

  past_later : (before : Journal Own Item Offer) (e f : Event Own Item Offer) → IsPast before e → IsPast (before ++ f ∷ []) e
  past_later before e f past w =
      ⊎_elim (λ (h : put_towards w e ≡ []). inl h)
      (λ (h : n w ≤ length (puts_towards w before)).
      let more = ap (λ (l : List Item). length l) (puts_towards-append w before (f ∷ [])) in
      let long = length-append (puts_towards w before) (puts_towards w (f ∷ [])) in
      inr (omega arith))
      (past w)

  free_by : (before : Journal Own Item Offer) (e p : Event Own Item Offer) → IsPast before e → is_early n before p ≡ true → IsFree e p
  free_by before e (puts v x) past is =
      ⊎_elim (λ (h : put_towards v e ≡ []). (v, x, refl, h))
      (λ (h : n v ≤ length (puts_towards v before)). let less = ltb-true (length (puts_towards v before)) (n v) is in absurd (omega arith))
      (past v)
  free_by before e (alone f) past is = cc
  free_by before e (takes u x) past is = cc
  free_by before e (offers o) past is = cc

  pub chosen_true : (t : Journal Own Item Offer → Event Own Item Offer → Bool) (before : Journal Own Item Offer) (e : Event Own Item Offer) (es : Journal Own Item Offer) → t before e ≡ true
      → chosen t before (e ∷ es) ≡ e ∷ chosen t (before ++ e ∷ []) es
  chosen_true t before e es is = rw is refl

  pub chosen_false : (t : Journal Own Item Offer → Event Own Item Offer → Bool) (before : Journal Own Item Offer) (e : Event Own Item Offer) (es : Journal Own Item Offer) → t before e ≡ false
      → chosen t before (e ∷ es) ≡ chosen t (before ++ e ∷ []) es
  chosen_false t before e es is = rw is refl

  -- the early puts that follow such an event are free of it
  early_are_free : (before : Journal Own Item Offer) (e : Event Own Item Offer) (es : Journal Own Item Offer) → IsPast before e → Each (IsFree e) (early_of before es)
  early_are_free before e [] past = tt
  early_are_free before e (f ∷ es) past =
      let later = early_are_free (before ++ f ∷ []) e es (past_later before e f past) in
      ⊎_elim
      (λ (t : is_early n before f ≡ true). subst (Each (IsFree e)) (sym (chosen_true (is_early n) before f es t)) (free_by before e f past t, later))
      (λ (t : is_early n before f ≡ false). subst (Each (IsFree e)) (sym (chosen_false (is_early n) before f es t)) later)
      (decide (is_early n before f))

  -- an event that is not early puts nothing in such a direction
  pub late_is_past : (before : Journal Own Item Offer) (e : Event Own Item Offer) → is_early n before e ≡ false → IsPast before e
  late_is_past before (puts v x) is w =
      ⊎_elim (λ (t : (v == w) ≡ true). inr (subst (λ k. n k ≤ length (puts_towards k before)) (eqb-true v w t) (ltb-false (length (puts_towards v before)) (n v) is)))
      (λ (t : (v == w) ≡ false). rw t (inl refl)) (decide (v == w))
  late_is_past before (alone f) is w = inl refl
  late_is_past before (takes u x) is w = inl refl
  late_is_past before (offers o) is w = inl refl

  pub early_is_put : (before : Journal Own Item Offer) (e : Event Own Item Offer) → is_early n before e ≡ true → (v : ℕ) × (x : Item) × (e ≡ puts v x)
  early_is_put before (puts v x) is = (v, x, refl)
  early_is_put before (alone f) is = cc
  early_is_put before (takes u x) is = cc
  early_is_put before (offers o) is = cc

  not_there : (w : ℕ) (before : Journal Own Item Offer) (e : Event Own Item Offer) → n w ≤ length (puts_towards w before) → is_early n before e ≡ true → put_towards w e ≡ []
  not_there w before (puts v x) full is =
      ⊎_elim
      (λ (t : (v == w) ≡ true).
      let less = subst (λ k. length (puts_towards k before) < n k) (eqb-true v w t) (ltb-true (length (puts_towards v before)) (n v) is) in absurd (omega arith))
      (λ (t : (v == w) ≡ false). rw t refl) (decide (v == w))
  not_there w before (alone f) full is = refl
  not_there w before (takes u x) full is = refl
  not_there w before (offers o) full is = refl

  pub none_of : (w : ℕ) (before : Journal Own Item Offer) (es : Journal Own Item Offer) → n w ≤ length (puts_towards w before) → puts_towards w (early_of before es) ≡ []
  none_of w before [] full = refl
  none_of w before (e ∷ es) full =
      let more = ap (λ (l : List Item). length l) (puts_towards-append w before (e ∷ [])) in
      let long = length-append (puts_towards w before) (puts_towards w (e ∷ [])) in
      let later = none_of w (before ++ e ∷ []) es (omega arith) in
      ⊎_elim
      (λ (t : is_early n before e ≡ true). ap (puts_towards w) (chosen_true (is_early n) before e es t) ∙ (λ i. not_there w before e full t i ++ later i))
      (λ (t : is_early n before e ≡ false). ap (puts_towards w) (chosen_false (is_early n) before e es t) ∙ later)
      (decide (is_early n before e))

module _ {State Own Item Offer : Type 0} (step : Steps State Own Item Offer) (law : PutsCommute step) (u : ℕ) where
  -- after a put the rest can still be put
  after_put : (v : ℕ) (x : Item) (ps : Journal Own Item Offer) (old put : State) → step u old (puts v x) put → ((w : ℕ) → CanPut step u old w (puts_towards w (puts v x ∷ ps)))
      → (w : ℕ) → CanPut step u put w (puts_towards w ps)
  after_put v x ps old put did can w =
      ⊎_elim
      (λ (t : (v == w) ≡ true).
      let here : CanPut step u old w (x ∷ puts_towards w ps) = rw t at (can w) in
      let did' : step u old (puts w x) put = subst (λ k. step u old (puts k x) put) (eqb-true v w t) did in
      subst (λ s. CanPut step u s w (puts_towards w ps)) (law.one u w x old here.0 put here.1 did') here.2)
      (λ (t : (v == w) ≡ false).
      let here : CanPut step u old w (puts_towards w ps) = rw t at (can w) in
      let p : Event Own Item Offer = puts v x in
      let none : put_towards w p ≡ [] = rw t refl in
      can_still step law u w (puts_towards w ps) (puts v x) old put none did here)
      (decide (v == w))

  -- an event may come after free puts that stand behind it
  jump : (e : Event Own Item Offer) (ps : Journal Own Item Offer) (old done new : State) → Each (IsFree e) ps → ((w : ℕ) → CanPut step u old w (puts_towards w ps)) → step u old e done
      → IsJournal step u done ps new → (mid : State) × IsJournal step u old ps mid × step u mid e new
  jump e [] old done new free can did j = (old, refl, subst (step u old e) j did)
  jump e (p ∷ ps) old done new free can did j =
      let v = free.0.0 in let x = free.0.1 in
      let is : p ≡ puts v x = free.0.2 in
      let can' : (w : ℕ) → CanPut step u old w (puts_towards w (puts v x ∷ ps)) = subst (λ q. (w : ℕ) → CanPut step u old w (puts_towards w (q ∷ ps))) is can in
      let head : CanPut step u old v (x ∷ puts_towards v ps) = rw (eq-eqb v v refl) at (can' v) in
      let later : step u done (puts v x) j.0 = subst (λ q. step u done q j.0) is j.1 in
      let turned : step u head.0 e j.0 = swap step law u v x e old done j.0 head.0 free.0.3 did later head.1 in
      let rest = jump e ps head.0 j.0 new free.1 (after_put v x ps old head.0 head.1 can') turned j.2 in
      (rest.0, (head.0, subst (λ q. step u old q head.0) (sym is) head.1, rest.1), rest.2)

  module _ (n : ℕ → ℕ) where
    can_later : (before : Journal Own Item Offer) (e : Event Own Item Offer) (es : Journal Own Item Offer) (old done : State) → IsPast n before e → step u old e done
        → ((w : ℕ) → CanPut step u old w (puts_towards w (early_of n (before ++ e ∷ []) es)))
        → (w : ℕ) → CanPut step u done w (puts_towards w (early_of n (before ++ e ∷ []) es))
    can_later before e es old done past did can w =
        ⊎_elim (λ (h : put_towards w e ≡ []). can_still step law u w (puts_towards w (early_of n (before ++ e ∷ []) es)) e old done h did (can w))
        (λ (h : n w ≤ length (puts_towards w before)).
        let more = ap (λ (l : List Item). length l) (puts_towards-append w before (e ∷ [])) in
        let long = length-append (puts_towards w before) (puts_towards w (e ∷ [])) in
        subst (CanPut step u done w) (sym (none_of n w (before ++ e ∷ []) es (omega arith))) tt)
        (past w)

    -- the early puts may all come first, and the journal leads to the same state
    pub early_first : (before es : Journal Own Item Offer) (old new : State) → IsJournal step u old es new → ((w : ℕ) → CanPut step u old w (puts_towards w (early_of n before es)))
        → (mid : State) × IsJournal step u old (early_of n before es) mid × IsJournal step u mid (late_of n before es) new
    early_first before [] old new j can = (old, refl, j)
    early_first before (e ∷ es) old new j can =
        ⊎_elim
        (λ (t : is_early n before e ≡ true).
        let is = early_is_put n before e t in
        let can' : (w : ℕ) → CanPut step u old w (puts_towards w (puts is.0 is.1 ∷ early_of n (before ++ e ∷ []) es)) =
        subst (λ q. (w : ℕ) → CanPut step u old w (puts_towards w (q ∷ early_of n (before ++ e ∷ []) es))) is.2
        (subst (λ l. (w : ℕ) → CanPut step u old w (puts_towards w l)) (chosen_true n (is_early n) before e es t) can) in
        let rest = early_first (before ++ e ∷ []) es j.0 new j.2 (after_put is.0 is.1 (early_of n (before ++ e ∷ []) es) old j.0 (subst (λ q. step u old q j.0) is.2 j.1) can') in (
          rest.0,
          subst (λ l. IsJournal step u old l rest.0) (sym (chosen_true n (is_early n) before e es t)) (j.0, j.1, rest.1),
          subst (λ l. IsJournal step u rest.0 l new) (sym (chosen_false n (λ b f. not (is_early n b f)) before e es (ap not t))) rest.2,
        ))
        (λ (t : is_early n before e ≡ false).
        let past = late_is_past n before e t in
        let can' : (w : ℕ) → CanPut step u old w (puts_towards w (early_of n (before ++ e ∷ []) es)) = subst (λ l. (w : ℕ) → CanPut step u old w (puts_towards w l)) (chosen_false n (is_early n) before e es t) can in
        let rest = early_first (before ++ e ∷ []) es j.0 new j.2 (can_later before e es old j.0 past j.1 can') in
        let moved = jump e (early_of n (before ++ e ∷ []) es) old j.0 rest.0 (early_are_free n (before ++ e ∷ []) e es (past_later n before e e past)) can' j.1 rest.1 in (
          moved.0,
          subst (λ l. IsJournal step u old l moved.0) (sym (chosen_false n (is_early n) before e es t)) moved.1,
          subst (λ l. IsJournal step u moved.0 l new) (sym (chosen_true n (λ b f. not (is_early n b f)) before e es (ap not t))) (rest.0, moved.2, rest.2),
        ))
        (decide (is_early n before e))
