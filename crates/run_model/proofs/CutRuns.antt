-- A run passes through each consistent cut, reordered.
use Rattle.std.proofs.Common.{◌≡◌, ℕ, ◌+◌, ◌≤◌, ⊎_elim, List, [], ◌∷◌, ◌++◌, length, refl, sym, ap, ◌∙◌, subst, append_assoc, arith, length-append}
use Rattle.std.specs.Prelude.{take, drop}
use Rattle.std.proofs.lemmas.List.{append-nil, take-append-drop, drop_all, append_cancel_left}
use Rattle.std.proofs.Math.Seq.{drop-append_seam, take-append_seam}
use mathlib.Core.List.{IsPrefix}
use Rattle.run_model.specs.Network.{Order, Journal, Steps, NetworkState, offered_by, puts_in, takes_in, offers_in, opening, Run}
use Rattle.run_model.specs.Journals.{puts_towards, takes_from, events_of, IsJournal}
use Rattle.run_model.specs.CausalOrder.{IsCausal, closing}
use Rattle.run_model.specs.Exchange.{CanPut, PutsCommute}
use Rattle.run_model.specs.ThroughCut.{inside, outside, needed, early, late, first_part, second_part, put_outside, IsPut, IsConsistentCut, PassesThrough, RunsHaveTheirCuts, RunsPassThroughCuts}
use Rattle.run_model.proofs.Pairs.{all}
use Rattle.run_model.proofs.Beginnings.{shorter_begins}
use Rattle.run_model.proofs.Runs.{puts_in-append, takes_in-append, runs, end}
use Rattle.run_model.proofs.TakesAndPuts.{runs_are_causal_orders}
use Rattle.run_model.proofs.OwnEvents.{puts_towards-append, takes_from-append, puts_are, takes_are}
use Rattle.run_model.proofs.CutJournals.{none_of, early_first}
use Rattle.run_model.proofs.CutLists.{first_puts, taken_apart, early_puts}
use Rattle.run_model.proofs.CutOrders.{below_or, goes_first, own_firsts, own_seconds, puts_firsts, puts_both, takes_firsts, takes_both, still_causal}

-- what is left of a beginning behind a shorter one
behind_both : {A : Type 0} (p t o all : List A) (k : ℕ) → p ++ o ≡ all → IsPrefix t all → length t ≡ length p + k → take k o ≡ drop (length p) t
behind_both p t o all k e h len =
    let q = shorter_begins p t all (o, e) h (omega arith) in
    let r : p ++ (q.0 ++ h.0) ≡ p ++ o = sym (append_assoc p q.0 h.0) ∙ ap (λ l. l ++ h.0) q.1 ∙ h.1 ∙ sym e in
    let o_is : q.0 ++ h.0 ≡ o = append_cancel_left p (q.0 ++ h.0) o r in
    let sum = length-append p q.0 in
    let same = ap (λ l. length l) q.1 in
    let k_is : k ≡ length q.0 = omega arith in
    ap (λ j. take j o) k_is ∙ ap (take (length q.0)) (sym o_is) ∙ take-append_seam q.0 h.0 ∙ sym (drop-append_seam p q.0) ∙ ap (drop (length p)) q.1

module _ {Own Item Offer : Type 0} where
  pub offers_in-append : (xs ys : Order Own Item Offer) → offers_in (xs ++ ys) ≡ offers_in xs ++ offers_in ys
  offers_in-append [] ys = refl
  offers_in-append (d ∷ xs) ys = ap (λ l. offered_by d.event ++ l) (offers_in-append xs ys) ∙ sym (append_assoc (offered_by d.event) (offers_in xs) (offers_in ys))

  -- the early puts of a direction have the items that were taken inside and put outside
  early_items : (cut : ℕ → ℕ) (order : Order Own Item Offer) → IsCausal order → (u v : ℕ) → puts_towards v (early cut order u) ≡ put_outside cut order u v
  early_items cut order causal u v =
      let p = puts_towards v (inside cut order u) in
      let o = puts_towards v (outside cut order u) in
      let t = takes_from u (inside cut order v) in
      let all : p ++ o ≡ puts_in u v order = sym (puts_towards-append v (inside cut order u) (outside cut order u)) ∙ ap (puts_towards v) (take-append-drop (cut u) (events_of u order)) ∙ puts_are u v order in
      let took : t ++ takes_from u (outside cut order v) ≡ takes_in u v order =
      sym (takes_from-append u (inside cut order v) (outside cut order v)) ∙ ap (takes_from u) (take-append-drop (cut v) (events_of v order)) ∙ takes_are u v order in
      let whole = causal u v order [] (sym (append-nil order)) in
      let begins : IsPrefix t (puts_in u v order) =
      (takes_from u (outside cut order v) ++ whole.0, sym (append_assoc t (takes_from u (outside cut order v)) whole.0) ∙ ap (λ l. l ++ whole.0) took ∙ whole.1) in
      ⊎_elim
      (λ (k : (k : ℕ) × (needed cut order u v ≡ length p + k)).
      first_puts (needed cut order u) v (inside cut order u) (outside cut order u) k.0 k.1 ∙ behind_both p t o (puts_in u v order) k.0 all begins k.1)
      (λ (h : needed cut order u v ≤ length p).
      none_of (needed cut order u) v (inside cut order u) (outside cut order u) h ∙ sym (drop_all (length p) t h))
      (below_or (length p) (needed cut order u v))

module _ {State Own Item Offer : Type 0} (step : Steps State Own Item Offer) where
  both_journals : (u : ℕ) (xs ys : Journal Own Item Offer) (a b c : State) → IsJournal step u a xs b → IsJournal step u b ys c → IsJournal step u a (xs ++ ys) c
  both_journals u [] ys a b c j k = subst (λ s. IsJournal step u s ys c) (sym j) k
  both_journals u (e ∷ xs) ys a b c j k = (j.0, j.1, both_journals u xs ys j.0 b c j.2 k)

  module _ (cut : ℕ → ℕ) (order : Order Own Item Offer) (start at finish : ℕ → State) (law : PutsCommute step) (causal : IsCausal order)
      (is : IsConsistentCut step cut order start at finish) where
    parted : (u : ℕ) → (mid : State) × IsJournal step u (at u) (early cut order u) mid × IsJournal step u mid (late cut order u) (finish u)
    parted u =
        early_first step law u (needed cut order u) (inside cut order u) (outside cut order u) (at u) (finish u) (is.states.outside_leads u)
        (λ w. subst (CanPut step u (at u) w) (sym (early_items cut order causal u w)) (is.appended_inside u w))

    abbrev middle : ℕ → State
    middle u = (parted u).0

    abbrev first : Order Own Item Offer
    first = first_part cut order

    abbrev second : Order Own Item Offer
    second = second_part cut order

    now_causal : IsCausal (first ++ second)
    now_causal = still_causal cut (needed cut order) order causal (λ u v. refl)

    first_leads : (u : ℕ) → IsJournal step u (start u) (events_of u first) (middle u)
    first_leads u =
        subst (λ l. IsJournal step u (start u) l (middle u)) (sym (own_firsts cut (needed cut order) u order))
        (both_journals u (inside cut order u) (early cut order u) (start u) (at u) (middle u) (is.states.inside_leads u) (parted u).1)

    second_leads : (u : ℕ) → IsJournal step u (middle u) (events_of u second) (finish u)
    second_leads u = subst (λ l. IsJournal step u (middle u) l (finish u)) (sym (own_seconds cut (needed cut order) u order)) (parted u).2

    abbrev at_the_cut : NetworkState State Item Offer
    at_the_cut = closing middle (offers_in first) first

    ends : end step at_the_cut finish second ≡ closing finish (offers_in (first ++ second)) order
    ends i =
        record {
          routers = finish;
          put = λ u v. puts_both cut (needed cut order) u v order i;
          taken = λ u v. takes_both cut (needed cut order) u v order i;
          offered = sym (offers_in-append first second) i;
        }

    through : PassesThrough step cut order start at middle (closing finish (offers_in order) order)
    through =
        record {
          parts = taken_apart (goes_first cut (needed cut order)) [] order;
          early_are_puts = λ u. all IsPut (early cut order u) (early_puts (needed cut order u) (inside cut order u) (outside cut order u));
          causal = now_causal;
          inside_and_early = λ u. own_firsts cut (needed cut order) u order;
          the_rest = λ u. own_seconds cut (needed cut order) u order;
          early_leads = λ u. (parted u).1;
          taken = λ u v. takes_firsts cut (needed cut order) u v order;
          put = λ u v. puts_firsts cut (needed cut order) u v order ∙ ap (λ l. puts_towards v (inside cut order u) ++ l) (early_items cut order causal u v);
          to_the_cut = runs step (opening start) middle first first_leads
              (λ u v front rest e. now_causal u v front (rest ++ second) (ap (λ l. l ++ second) e ∙ append_assoc front rest second));
          from_the_cut = subst (Run step at_the_cut second) ends
              (runs step at_the_cut finish second second_leads
              (λ u v front rest e.
              let h = now_causal u v (first ++ front) rest (ap (λ l. first ++ l) e ∙ sym (append_assoc first front rest)) in
              (h.0, ap (λ l. l ++ h.0) (sym (takes_in-append u v first front)) ∙ h.1 ∙ puts_in-append u v first front)));
        }

  pub runs_pass_through_cuts : RunsPassThroughCuts step
  runs_pass_through_cuts cut order start at last law run is =
      let shown = runs_are_causal_orders step start order last run in
      let causal : IsCausal order = λ u v front rest e. shown.1 u v front rest e in (
        middle cut order start at last.routers law causal is,
        subst (PassesThrough step cut order start at (middle cut order start at last.routers law causal is)) (sym shown.2)
            (through cut order start at last.routers law causal is),
      )

  parted_at : (u : ℕ) (xs ys : Journal Own Item Offer) (a c : State) → IsJournal step u a (xs ++ ys) c → (b : State) × IsJournal step u a xs b × IsJournal step u b ys c
  parted_at u [] ys a c j = (a, refl, j)
  parted_at u (e ∷ xs) ys a c j = let rest = parted_at u xs ys j.0 c j.2 in (rest.0, (j.0, j.1, rest.1), rest.2)

  pub runs_have_their_cuts : RunsHaveTheirCuts step
  runs_have_their_cuts cut order start last run =
      let whole = (runs_are_causal_orders step start order last run).0 in
      let at_each : (u : ℕ) → (b : State) × IsJournal step u (start u) (inside cut order u) b × IsJournal step u b (outside cut order u) (last.routers u) =
      λ u. parted_at u (inside cut order u) (outside cut order u) (start u) (last.routers u)
      (subst (λ l. IsJournal step u (start u) l (last.routers u)) (sym (take-append-drop (cut u) (events_of u order))) (whole u)) in
      ((λ u. (at_each u).0), record { inside_leads = λ u. (at_each u).1; outside_leads = λ u. (at_each u).2 })
