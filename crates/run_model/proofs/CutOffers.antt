-- Offers of a kind that no router made inside stand as they stood.
use Rattle.std.proofs.Common.{◌≡◌, ℕ, suc, ◌+◌, ◌<◌, if◌then◌else◌, ⊎_elim, Bool, true, false, not, [], ◌∷◌, ◌++◌, length, refl, sym, ap, ◌∙◌, subst, append_assoc, arith}
use Rattle.std.specs.Prelude.{ltb, ◌||◌, ◌-◌, take, filter}
use Rattle.std.proofs.lemmas.Bool.{eq-eqb, ltb-true}
use Rattle.std.proofs.lemmas.List.Elements.{filter-append}
use Rattle.std.proofs.Math.Seq.{take-append-add}
use Rattle.run_model.specs.Network.{Order, Journal, Event, NetworkEvent, offered_by, offers_in}
use Rattle.run_model.specs.Journals.{offers_made, events_of}
use Rattle.run_model.specs.ThroughCut.{selected, is_early, inside, needed, first_part, second_part, OffersStand}
use Rattle.run_model.proofs.Beginnings.{both_empty}
use Rattle.run_model.proofs.SameLists.{decide}
use Rattle.run_model.proofs.OwnEvents.{events_of-append}
use Rattle.run_model.proofs.CutJournals.{early_is_put}
use Rattle.run_model.proofs.CutOrders.{goes_first, goes_second}
use Rattle.run_model.proofs.CutRuns.{offers_in-append}

module _ {Own Item Offer : Type 0} where
  offers_made-append : (xs ys : Journal Own Item Offer) → offers_made (xs ++ ys) ≡ offers_made xs ++ offers_made ys
  offers_made-append [] ys = refl
  offers_made-append (e ∷ xs) ys = ap (λ l. offered_by e ++ l) (offers_made-append xs ys) ∙ sym (append_assoc (offered_by e) (offers_made xs) (offers_made ys))

module _ {Own Item Offer : Type 0} (kind : Offer → Bool) (c : ℕ → ℕ) where
  -- no event inside makes such an offer
  abbrev None_inside : Order Own Item Offer → Order Own Item Offer → Type 0
  None_inside before [] = Unit {0}
  None_inside before (d ∷ ds) = (ltb (length (events_of d.router before)) (c d.router) ≡ true → filter kind (offered_by d.event) ≡ []) × None_inside (before ++ d ∷ []) ds

  inside_none : (before : Order Own Item Offer) (d : NetworkEvent Own Item Offer) (ds : Order Own Item Offer)
      → filter kind (offers_made (take (c d.router) (events_of d.router (before ++ d ∷ ds)))) ≡ [] → length (events_of d.router before) < c d.router → filter kind (offered_by d.event) ≡ []
  inside_none before d ds none less =
      let u = d.router in
      let own : events_of u (before ++ d ∷ ds) ≡ events_of u before ++ d.event ∷ events_of u ds =
      events_of-append u before (d ∷ ds) ∙ ap (λ (b : Bool). events_of u before ++ ((if b then d.event ∷ [] else []) ++ events_of u ds)) (eq-eqb u u refl) in
      let k = c u - suc (length (events_of u before)) in
      let is : c u ≡ length (events_of u before) + suc k = omega arith in
      let here : take (c u) (events_of u (before ++ d ∷ ds)) ≡ events_of u before ++ take (suc k) (d.event ∷ events_of u ds) =
      ap (λ l. take (c u) l) own ∙ ap (λ j. take j (events_of u before ++ d.event ∷ events_of u ds)) is ∙ take-append-add (events_of u before) (d.event ∷ events_of u ds) (suc k) in
      let made : offers_made (take (c u) (events_of u (before ++ d ∷ ds))) ≡ offers_made (events_of u before) ++ (offered_by d.event ++ offers_made (take k (events_of u ds))) =
      ap offers_made here ∙ offers_made-append (events_of u before) (take (suc k) (d.event ∷ events_of u ds)) in
      let parts = sym (filter-append kind (offers_made (events_of u before)) (offered_by d.event ++ offers_made (take k (events_of u ds)))) ∙ ap (filter kind) (sym made) ∙ none in
      let rest = (both_empty (filter kind (offers_made (events_of u before))) (filter kind (offered_by d.event ++ offers_made (take k (events_of u ds)))) parts).1 in
      (both_empty (filter kind (offered_by d.event)) (filter kind (offers_made (take k (events_of u ds)))) (sym (filter-append kind (offered_by d.event) (offers_made (take k (events_of u ds)))) ∙ rest)).0

  none_inside : (before ds : Order Own Item Offer) → ((u : ℕ) → filter kind (offers_made (take (c u) (events_of u (before ++ ds)))) ≡ []) → None_inside before ds
  none_inside before [] none = tt
  none_inside before (d ∷ ds) none = (
    (λ is. inside_none before d ds (none d.router) (ltb-true (length (events_of d.router before)) (c d.router) is)),
    none_inside (before ++ d ∷ []) ds (subst (λ l. (u : ℕ) → filter kind (offers_made (take (c u) (events_of u l))) ≡ []) (sym (append_assoc before (d ∷ []) ds)) none),
  )

  module _ (n : ℕ → ℕ → ℕ) where
    -- an early put makes no offer
    none_first : (before : Journal Own Item Offer) (u : ℕ) (e : Event Own Item Offer) → (ltb (length before) (c u) ≡ true → filter kind (offered_by e) ≡ []) → goes_first c n u before e ≡ true
        → filter kind (offered_by e) ≡ []
    none_first before u e inside is =
        ⊎_elim (λ (t : ltb (length before) (c u) ≡ true). inside t)
        (λ (t : ltb (length before) (c u) ≡ false).
        let put = early_is_put (n u) before e (ap (λ (b : Bool). b || is_early (n u) before e) (sym t) ∙ is) in
        ap (λ (f : Event Own Item Offer). filter kind (offered_by f)) put.2)
        (decide (ltb (length before) (c u)))

    firsts_none : (before ds : Order Own Item Offer) → None_inside before ds → filter kind (offers_in (selected (goes_first c n) before ds)) ≡ []
    firsts_none before [] none = refl
    firsts_none before (d ∷ ds) none =
        let later = firsts_none (before ++ d ∷ []) ds none.1 in
        ⊎_elim
        (λ (t : goes_first c n d.router (events_of d.router before) d.event ≡ true).
        ap (λ (b : Bool). filter kind (offers_in ((if b then d ∷ [] else []) ++ selected (goes_first c n) (before ++ d ∷ []) ds))) t
        ∙ filter-append kind (offered_by d.event) (offers_in (selected (goes_first c n) (before ++ d ∷ []) ds))
        ∙ (λ i. none_first (events_of d.router before) d.router d.event none.0 t i ++ later i))
        (λ (t : goes_first c n d.router (events_of d.router before) d.event ≡ false).
        ap (λ (b : Bool). filter kind (offers_in ((if b then d ∷ [] else []) ++ selected (goes_first c n) (before ++ d ∷ []) ds))) t ∙ later)
        (decide (goes_first c n d.router (events_of d.router before) d.event))

    seconds_all : (before ds : Order Own Item Offer) → None_inside before ds → filter kind (offers_in (selected (goes_second c n) before ds)) ≡ filter kind (offers_in ds)
    seconds_all before [] none = refl
    seconds_all before (d ∷ ds) none =
        let later = seconds_all (before ++ d ∷ []) ds none.1 in
        ⊎_elim
        (λ (t : goes_first c n d.router (events_of d.router before) d.event ≡ true).
        ap (λ (b : Bool). filter kind (offers_in ((if not b then d ∷ [] else []) ++ selected (goes_second c n) (before ++ d ∷ []) ds))) t ∙ later
        ∙ ap (λ l. l ++ filter kind (offers_in ds)) (sym (none_first (events_of d.router before) d.router d.event none.0 t)) ∙ sym (filter-append kind (offered_by d.event) (offers_in ds)))
        (λ (t : goes_first c n d.router (events_of d.router before) d.event ≡ false).
        ap (λ (b : Bool). filter kind (offers_in ((if not b then d ∷ [] else []) ++ selected (goes_second c n) (before ++ d ∷ []) ds))) t
        ∙ filter-append kind (offered_by d.event) (offers_in (selected (goes_second c n) (before ++ d ∷ []) ds))
        ∙ ap (λ l. filter kind (offered_by d.event) ++ l) later ∙ sym (filter-append kind (offered_by d.event) (offers_in ds)))
        (decide (goes_first c n d.router (events_of d.router before) d.event))

module _ {Own Item Offer : Type 0} where
  pub offers_stand : OffersStand Own Item Offer
  offers_stand cut order kind none =
      let inside = none_inside kind cut [] order none in
      let n = needed cut order in
      ap (filter kind) (offers_in-append (first_part cut order) (second_part cut order))
      ∙ filter-append kind (offers_in (first_part cut order)) (offers_in (second_part cut order))
      ∙ (λ i. firsts_none kind cut n [] order inside i ++ seconds_all kind cut n [] order inside i)
