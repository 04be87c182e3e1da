-- Events whose items lose their stamps keep their order and their causes.
use Rattle.std.proofs.Common.{◌≡◌, ℕ, ◌==◌, if◌then◌else◌, Bool, true, false, List, [], ◌∷◌, ◌++◌, refl, sym, ap, ◌∙◌, subst, arith}
use Rattle.std.specs.Prelude.{map}
use Rattle.std.proofs.lemmas.List.{map-append}
use mathlib.Core.List.{IsPrefix}
use Rattle.run_model.specs.Network.{Journal, Order, Event, NetworkEvent, alone, puts, takes, offers, put_towards, taken_from, put_between, taken_between, offered_by, puts_in, takes_in, offers_in}
use Rattle.run_model.specs.Journals.{puts_towards, takes_from, event_of, events_of}
use Rattle.run_model.specs.CausalOrder.{IsCausal}
use Rattle.run_model.specs.Stamps.{StampedItem, Stamped, events_in, without_stamp, without_stamps, order_of, StampsChangeNoItem}

map_if : {A B : Type 0} (f : A → B) (b : Bool) (xs : List A) → map f (if b then xs else []) ≡ (if b then map f xs else [])
map_if f true xs = refl
map_if f false xs = refl

abbrev bare : {Item : Type 0} → StampedItem Item → Item
bare x = x.item

module _ {Own Item Offer : Type 0} where
  abbrev pub stripped_order : Order Own (StampedItem Item) Offer → Order Own Item Offer
  stripped_order ds = map (λ d. record { router = d.router; event = without_stamp d.event }) ds

  pub as_stripped : (ms : List (Stamped Own Item Offer)) → order_of ms ≡ stripped_order (events_in ms)
  as_stripped [] = refl
  as_stripped (m ∷ ms) = ap (λ l. record { router = m.event.router; event = without_stamp m.event.event } ∷ l) (as_stripped ms)

  put_strip : (v : ℕ) (e : Event Own (StampedItem Item) Offer) → put_towards v (without_stamp e) ≡ map bare (put_towards v e)
  put_strip v (puts to x) = sym (map_if bare (to == v) (x ∷ []))
  put_strip v (takes from x) = refl
  put_strip v (alone e) = refl
  put_strip v (offers o) = refl

  take_strip : (u : ℕ) (e : Event Own (StampedItem Item) Offer) → taken_from u (without_stamp e) ≡ map bare (taken_from u e)
  take_strip u (takes from x) = sym (map_if bare (from == u) (x ∷ []))
  take_strip u (puts to x) = refl
  take_strip u (alone e) = refl
  take_strip u (offers o) = refl

  offer_strip : (e : Event Own (StampedItem Item) Offer) → offered_by (without_stamp e) ≡ offered_by e
  offer_strip e = grind arith

  puts_strip : (u v : ℕ) (ds : Order Own (StampedItem Item) Offer) → puts_in u v (stripped_order ds) ≡ map bare (puts_in u v ds)
  puts_strip u v [] = refl
  puts_strip u v (d ∷ ds) =
      (λ i. (if d.router == u then put_strip v d.event i else []) ++ puts_strip u v ds i)
      ∙ ap (λ l. l ++ map bare (puts_in u v ds)) (sym (map_if bare (d.router == u) (put_towards v d.event)))
      ∙ sym (map-append bare (put_between u v d) (puts_in u v ds))

  takes_strip : (u v : ℕ) (ds : Order Own (StampedItem Item) Offer) → takes_in u v (stripped_order ds) ≡ map bare (takes_in u v ds)
  takes_strip u v [] = refl
  takes_strip u v (d ∷ ds) =
      (λ i. (if d.router == v then take_strip u d.event i else []) ++ takes_strip u v ds i)
      ∙ ap (λ l. l ++ map bare (takes_in u v ds)) (sym (map_if bare (d.router == v) (taken_from u d.event)))
      ∙ sym (map-append bare (taken_between u v d) (takes_in u v ds))

  pub offers_strip : (ds : Order Own (StampedItem Item) Offer) → offers_in (stripped_order ds) ≡ offers_in ds
  offers_strip [] = refl
  offers_strip (d ∷ ds) = λ i. offer_strip d.event i ++ offers_strip ds i

  pub events_strip : (u : ℕ) (ds : Order Own (StampedItem Item) Offer) → events_of u (stripped_order ds) ≡ without_stamps (events_of u ds)
  events_strip u [] = refl
  events_strip u (d ∷ ds) =
      ap (λ l. (if d.router == u then without_stamp d.event ∷ [] else []) ++ l) (events_strip u ds)
      ∙ ap (λ l. l ++ without_stamps (events_of u ds)) (sym (map_if without_stamp (d.router == u) (d.event ∷ [])))
      ∙ sym (map-append without_stamp (event_of u d) (events_of u ds))

  strip_front : (ds : Order Own (StampedItem Item) Offer) (front rest : Order Own Item Offer) → stripped_order ds ≡ front ++ rest
      → (f r : Order Own (StampedItem Item) Offer) × (ds ≡ f ++ r) × (stripped_order f ≡ front)
  strip_front ds [] rest e = ([], ds, refl, refl)
  strip_front [] (x ∷ front) rest e = cc
  strip_front (d ∷ ds) (x ∷ front) rest e =
      let one : NetworkEvent Own Item Offer = record { router = d.router; event = without_stamp d.event } in
      let e' : one ∷ stripped_order ds ≡ x ∷ (front ++ rest) = e in
      let same : one ≡ x = cc in
      let left : stripped_order ds ≡ front ++ rest = cc in
      let s = strip_front ds front rest left in
      (d ∷ s.0, s.1, (λ i. d ∷ s.2 i), (λ i. same i ∷ s.3 i))

  pub strip_causal : (ds : Order Own (StampedItem Item) Offer) → IsCausal ds → IsCausal (stripped_order ds)
  strip_causal ds causal u v front rest e =
      let s = strip_front ds front rest e in
      let p = causal u v s.0 s.1 s.2 in
      subst (λ l. IsPrefix (takes_in u v l) (puts_in u v l)) s.3 (
        map bare p.0,
        ap (λ l. l ++ map bare p.0) (takes_strip u v s.0) ∙ sym (map-append bare (takes_in u v s.0) p.0) ∙ ap (map bare) p.1 ∙ sym (puts_strip u v s.0),
      )

  puts_bare : (u : ℕ) (es : Journal Own (StampedItem Item) Offer) → puts_towards u (without_stamps es) ≡ map bare (puts_towards u es)
  puts_bare u [] = refl
  puts_bare u (e ∷ es) = (λ i. put_strip u e i ++ puts_bare u es i) ∙ sym (map-append bare (put_towards u e) (puts_towards u es))

  takes_bare : (u : ℕ) (es : Journal Own (StampedItem Item) Offer) → takes_from u (without_stamps es) ≡ map bare (takes_from u es)
  takes_bare u [] = refl
  takes_bare u (e ∷ es) = (λ i. take_strip u e i ++ takes_bare u es i) ∙ sym (map-append bare (taken_from u e) (takes_from u es))

  pub stamps_change_no_item : StampsChangeNoItem Own Item Offer
  stamps_change_no_item u es = (puts_bare u es, takes_bare u es)
