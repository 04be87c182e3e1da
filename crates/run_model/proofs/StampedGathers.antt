-- Gathered events are an order by stamps.
use Rattle.std.proofs.Common.{◌≡◌, ℕ, ◌==◌, if◌then◌else◌, ⊎_elim, Bool, true, false, List, [], ◌∷◌, ◌++◌, refl, sym, ap, ◌∙◌, subst}
use Rattle.std.specs.Prelude.{map}
use Rattle.std.proofs.lemmas.Bool.{eq-eqb}
use Rattle.run_model.specs.Journals.{events_of}
use Rattle.run_model.specs.Stamps.{Stamped, events_in, FitsItem}
use Rattle.run_model.specs.Gathering.{entries_of, GatheredEventsAreStamped}
use Rattle.run_model.proofs.Pairs.{Each, each, all}
use Rattle.run_model.proofs.SameLists.{decide, filter_keeps, filter_drops, each_kept}
use Rattle.run_model.proofs.Gathers.{gathered_rises}

module _ {Own Item Offer : Type 0} where
  abbrev stamp : Stamped Own Item Offer → ℕ
  stamp m = m.stamp

  abbrev router : Stamped Own Item Offer → ℕ
  router m = m.event.router

  -- a router's events are those of its entries
  events_are : (u : ℕ) (ms : List (Stamped Own Item Offer)) → events_of u (events_in ms) ≡ map (λ m. m.event.event) (entries_of stamp router u ms)
  events_are u [] = refl
  events_are u (m ∷ ms) =
      ⊎_elim
      (λ (t : (m.event.router == u) ≡ true).
      ap (λ (b : Bool). (if b then m.event.event ∷ [] else []) ++ events_of u (events_in ms)) t ∙ ap (λ l. m.event.event ∷ l) (events_are u ms)
      ∙ ap (map (λ (n : Stamped Own Item Offer). n.event.event)) (sym (filter_keeps (λ n. n.event.router == u) m ms t)))
      (λ (t : (m.event.router == u) ≡ false).
      ap (λ (b : Bool). (if b then m.event.event ∷ [] else []) ++ events_of u (events_in ms)) t ∙ events_are u ms
      ∙ ap (map (λ (n : Stamped Own Item Offer). n.event.event)) (sym (filter_drops (λ n. n.event.router == u) m ms t)))
      (decide (m.event.router == u))

  -- what holds of each router's entries holds of all
  each_own : (P : Stamped Own Item Offer → Type 0) (ms : List (Stamped Own Item Offer)) → ((u : ℕ) → Each P (entries_of stamp router u ms)) → Each P ms
  each_own P [] h = tt
  each_own P (m ∷ ms) h =
      let mine = subst (Each P) (filter_keeps (λ n. n.event.router == m.event.router) m ms (eq-eqb m.event.router m.event.router refl)) (h m.event.router) in (
        mine.0,
        each_own P ms (λ u.
            ⊎_elim
            (λ (t : (m.event.router == u) ≡ true). (subst (Each P) (filter_keeps (λ n. n.event.router == u) m ms t) (h u)).1)
            (λ (t : (m.event.router == u) ≡ false). subst (Each P) (filter_drops (λ n. n.event.router == u) m ms t) (h u))
            (decide (m.event.router == u))),
      )

  pub gathered_events_are_stamped : GatheredEventsAreStamped Own Item Offer
  gathered_events_are_stamped before ms is fits in_turn =
      record {
        journals = λ u. events_are u ms ∙ ap (map (λ (n : Stamped Own Item Offer). n.event.event)) (is.journals u) ∙ sym (events_are u before);
        rise = gathered_rises stamp router before ms is;
        fit = all (λ (m : Stamped Own Item Offer). FitsItem m.stamp m.event.event) ms
            (each_own (λ (m : Stamped Own Item Offer). FitsItem m.stamp m.event.event) ms
            (λ u. subst (Each (λ (m : Stamped Own Item Offer). FitsItem m.stamp m.event.event)) (sym (is.journals u))
            (each_kept (λ (m : Stamped Own Item Offer). FitsItem m.stamp m.event.event) (λ n. n.event.router == u) before
            (each (λ (m : Stamped Own Item Offer). FitsItem m.stamp m.event.event) before fits))));
        in_turn = in_turn;
      }
