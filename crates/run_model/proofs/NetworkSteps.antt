-- A step of the network is one router's step whose take gets the next item.
use Rattle.std.proofs.Common.{◌≡◌, ℕ, ◌==◌, ⊎_elim, List, [], ◌∷◌, ◌++◌, length, Some, slice_get, refl, sym, ap, ◌∙◌, subst, append_assoc}
use Rattle.std.proofs.lemmas.List.{append-nil}
use mathlib.Core.List.{IsPrefix}
use Rattle.run_model.specs.Network.{Steps, Event, NetworkEvent, NetworkState, alone, puts, takes, offers, put_between, taken_between, GetsTheNext, StepsAreTakesInOrder}
use Rattle.run_model.proofs.TakesAndPuts.{behind, longer, taking, no_put, its_take, which}

module _ {A : Type 0} where
  -- the lists that one event leaves: nothing taken, something put or not
  still_begins : (taken put t p : List A) → IsPrefix taken put → t ≡ [] → IsPrefix (taken ++ t) (put ++ p)
  still_begins taken put t p is none = (is.0 ++ p, ap (λ l. (taken ++ l) ++ (is.0 ++ p)) none ∙ ap (λ l. l ++ (is.0 ++ p)) (append-nil taken) ∙ sym (append_assoc taken is.0 p) ∙ ap (λ l. l ++ p) is.1)

  one_more : (taken put t p : List A) (x : A) → IsPrefix taken put → t ≡ x ∷ [] → p ≡ [] → slice_get put (length taken) ≡ Some x → IsPrefix (taken ++ t) (put ++ p)
  one_more taken put t p x is one none next =
      let r = longer taken put x is next in
      (r.0, ap (λ l. (taken ++ l) ++ r.0) one ∙ r.1 ∙ sym (append-nil put) ∙ ap (λ l. put ++ l) (sym none))

  next_of : (taken put t p : List A) (x : A) → t ≡ x ∷ [] → p ≡ [] → IsPrefix (taken ++ t) (put ++ p) → slice_get put (length taken) ≡ Some x
  next_of taken put t p x one none is =
      let e : taken ++ (x ∷ is.0) ≡ put = sym (append_assoc taken (x ∷ []) is.0) ∙ ap (λ l. (taken ++ l) ++ is.0) (sym one) ∙ is.1 ∙ ap (λ l. put ++ l) none ∙ append-nil put in
      ap (λ l. slice_get l (length taken)) (sym e) ∙ behind taken x is.0

module _ {State Own Item Offer : Type 0} (step : Steps State Own Item Offer) (old new : NetworkState State Item Offer) (d : NetworkEvent Own Item Offer) where
  gets_by : (w : ℕ) (e : Event Own Item Offer)
      → ((u v : ℕ) → IsPrefix (old.taken u v ++ taken_between u v (record { router = w; event = e })) (old.put u v ++ put_between u v (record { router = w; event = e }))) → GetsTheNext old w e
  gets_by w (takes u x) flows =
      let c : NetworkEvent Own Item Offer = taking u w x in
      next_of (old.taken u w) (old.put u w) (taken_between u w c) (put_between u w c) x (its_take u w x c refl) (no_put u w x c refl) (flows u w)
  gets_by w (alone e) flows = tt
  gets_by w (puts v x) flows = tt
  gets_by w (offers o) flows = tt

  flows_by : ((u v : ℕ) → IsPrefix (old.taken u v) (old.put u v)) → GetsTheNext old d.router d.event → (u v : ℕ)
      → IsPrefix (old.taken u v ++ taken_between u v d) (old.put u v ++ put_between u v d)
  flows_by is gets u v =
      ⊎_elim (λ (none : taken_between u v d ≡ []). still_begins (old.taken u v) (old.put u v) (taken_between u v d) (put_between u v d) (is u v) none)
      (λ (h : (x : Item) × (d ≡ taking u v x)).
      one_more (old.taken u v) (old.put u v) (taken_between u v d) (put_between u v d) h.0 (is u v) (its_take u v h.0 d h.1) (no_put u v h.0 d h.1)
      (subst (λ (c : NetworkEvent Own Item Offer). GetsTheNext old c.router c.event) h.1 gets))
      (which u v d.router d.event (d.router == v) refl)

module _ {State Own Item Offer : Type 0} (step : Steps State Own Item Offer) where
  pub steps_are_takes_in_order : StepsAreTakesInOrder step
  steps_are_takes_in_order old new d is = (
    (λ s. (
      (s.0, s.1, s.2),
      gets_by step old new d d.router d.event (subst (λ (n : NetworkState State Item Offer). (u v : ℕ) → IsPrefix (n.taken u v) (n.put u v)) s.2 s.3),
    )),
    (λ s gets. (
      s.0,
      s.1,
      s.2,
      subst (λ (n : NetworkState State Item Offer). (u v : ℕ) → IsPrefix (n.taken u v) (n.put u v)) (sym s.2) (flows_by step old new d is gets),
    )),
  )
