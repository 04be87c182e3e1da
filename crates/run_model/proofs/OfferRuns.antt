-- What holds of the offers in every state of a run.
use Rattle.std.proofs.Common.{◌≡◌, ◌≢◌, ℕ, ◌≤◌, ◌==◌, Bool, true, false, cond, List, [], ◌∷◌, ◌++◌, length, Some, None, slice_get, refl, ap, sym, ◌∙◌, arith, subst, inl, inr, ◌⊎◌}
use mathlib.Core.List.{IsPrefix}
use Rattle.run_model.specs.Links.{End}
use Rattle.run_model.specs.Routes.{Network, Router, Routers, Event, NetworkStep, router_after, MayHappen, IsNetworkRun, routers_after}
use Rattle.run_model.specs.Offers.{Offer, offers_for, Queues, Made, Offering, OfferEvent, Happens, Makes, OfferStep, made_by, MayOffer, offering_after, IsOfferRun, offerings_after, first_offering, network_step, network_steps, final, OffersAside, AtMostOneOffer, NoOfferBeforeItsRecording, RecordedOrOffered}
use Rattle.run_model.proofs.EntryLists.{prefix_none, prefix_push, prefix_next}
use Rattle.run_model.proofs.MarkerFacts.{prefix_length}
use Rattle.run_model.proofs.RecordingRuns.{RunFacts, holds_start}
use Rattle.run_model.proofs.SettledFacts.{recorders_of, facts_step}
use Rattle.run_model.proofs.OfferFacts.{offers_for-append, Stage, event_stage}
use Rattle.std.proofs.lemmas.List.{append-nil}
use Rattle.std.proofs.lemmas.Bool.Decides.{nat_tests}

module _ {M P W : Type 0} (g : Network M P W) where
  pub record OfferRunFacts (x : Offering M P W) : Type 0 where
    pub facts : RunFacts g.linked (recorders_of x.routers)
    pub stages : (u s : ℕ) → Stage g u (x.routers u) (x.queued u) s
    pub made : (u : ℕ) → IsPrefix (made_by u x.made) (x.queued u)

  stage_case : (w : Routers M P W) (queued : ℕ → List (Offer M P W)) (u y s : ℕ) (event : Event M P W) (os : List (Offer M P W)) (b : Bool) → (y == u) ≡ b → RunFacts g.linked (recorders_of w) → MayHappen g w u event → Queues g u (w u) event os
      → Stage g y (w y) (queued y) s → Stage g y (cond b (router_after g y (w y) event) (w y)) (cond b (queued y ++ os) (queued y)) s
  stage_case w queued u y s event os true is facts may queues h =
      let same : u ≡ y = grind (arith, nat_tests, is) in
      event_stage g w y s event (queued y) os (facts.low y) (subst (λ i. MayHappen g w i event) same may) (subst (λ i. Queues g i (w i) event os) same queues) h
  stage_case w queued u y s event os false is facts may queues h = h

  made_longer : (ms : List (Made M P W)) (y u : ℕ) (o : Offer M P W) → made_by y (ms ++ record { router = u; offer = o } ∷ []) ≡ made_by y ms ++ cond (y == u) (o ∷ []) []
  made_longer [] y u o = at (y == u)
    where
      at : (b : Bool) → cond b (o ∷ []) [] ≡ cond b (o ∷ []) []
      at b = refl
  made_longer (m ∷ ms) y u o = head (y == m.router) (made_longer ms y u o)
    where
      head : (b : Bool) → made_by y (ms ++ record { router = u; offer = o } ∷ []) ≡ made_by y ms ++ cond (y == u) (o ∷ []) []
          → cond b (m.offer ∷ made_by y (ms ++ record { router = u; offer = o } ∷ [])) (made_by y (ms ++ record { router = u; offer = o } ∷ [])) ≡ cond b (m.offer ∷ made_by y ms) (made_by y ms) ++ cond (y == u) (o ∷ []) []
      head true e = ap (λ i. m.offer ∷ i) e
      head false e = e

  made_case : (x : Offering M P W) (y u : ℕ) (o : Offer M P W) (b : Bool) → (y == u) ≡ b → slice_get (x.queued u) (length (made_by u x.made)) ≡ Some o → IsPrefix (made_by y x.made) (x.queued y)
      → IsPrefix (made_by y x.made ++ cond b (o ∷ []) []) (x.queued y)
  made_case x y u o true is next h =
      let same : u ≡ y = grind (arith, nat_tests, is) in
      prefix_next (made_by y x.made) (x.queued y) o h (subst (λ i. slice_get (x.queued i) (length (made_by i x.made)) ≡ Some o) same next)
  made_case x y u o false is next h = subst (λ i. IsPrefix i (x.queued y)) (sym (append-nil (made_by y x.made))) h

  queue_case : (b : Bool) (front queue os : List (Offer M P W)) → IsPrefix front queue → IsPrefix front (cond b (queue ++ os) queue)
  queue_case true front queue os h = prefix_push front queue os h
  queue_case false front queue os h = h

  pub step_facts : (x : Offering M P W) (u : ℕ) (event : OfferEvent M P W) → OfferRunFacts x → MayOffer g x u event → OfferRunFacts (offering_after g x u event)
  step_facts x u (Happens event os) h may = record {
    facts = facts_step g x.routers (record { router = u; event = event }) h.facts may.0;
    stages = λ y s. stage_case x.routers x.queued u y s event os (y == u) refl h.facts may.0 may.1 (h.stages y s);
    made = λ y. queue_case (y == u) (made_by y x.made) (x.queued y) os (h.made y);
  }
  step_facts x u (Makes offer) h may = record {
    facts = h.facts;
    stages = h.stages;
    made = λ y. subst (λ i. IsPrefix i (x.queued y)) (sym (made_longer x.made y u offer)) (made_case x y u offer (y == u) refl may (h.made y));
  }

  pub run_facts : (ts : List (OfferStep M P W)) (x : Offering M P W) → OfferRunFacts x → IsOfferRun g x ts → OfferRunFacts (offerings_after g x ts)
  run_facts [] x h r = h
  run_facts (t ∷ ts) x h r = run_facts ts (offering_after g x t.router t.event) (step_facts x t.router t.event h r.0) r.1

  pub final_facts : (ts : List (OfferStep M P W)) → IsOfferRun g (first_offering g) ts → OfferRunFacts (final g ts)
  final_facts ts r =
      run_facts ts (first_offering g) (record {
        facts = holds_start g.linked;
        stages = λ u s. inl (record { copy = refl; part = refl; unfinished = λ e. cc e; none = refl });
        made = λ u. ([], refl);
      }) r

  -- without the offers
  aside_case : (x : Offering M P W) (u : ℕ) (e : OfferEvent M P W) (rest : List (NetworkStep M P W)) (last : Routers M P W) → MayOffer g x u e
      → IsNetworkRun g (offering_after g x u e).routers rest × (routers_after g (offering_after g x u e).routers rest ≡ last)
      → IsNetworkRun g x.routers (network_step g u e ++ rest) × (routers_after g x.routers (network_step g u e ++ rest) ≡ last)
  aside_case x u (Happens event os) rest last may h = ((may.0, h.0), h.1)
  aside_case x u (Makes offer) rest last may h = h

  aside_from : (ts : List (OfferStep M P W)) (x : Offering M P W) → IsOfferRun g x ts → IsNetworkRun g x.routers (network_steps g ts) × (routers_after g x.routers (network_steps g ts) ≡ (offerings_after g x ts).routers)
  aside_from [] x r = (tt, refl)
  aside_from (t ∷ ts) x r = aside_case x t.router t.event (network_steps g ts) (offerings_after g x (t ∷ ts)).routers r.0 (aside_from ts (offering_after g x t.router t.event) r.1)

  -- at most one
  one_length : (u s : ℕ) (n : Router M P W) (q : List (Offer M P W)) → Stage g u n q s → length (offers_for s q) ≤ 1
  one_length u s n q (inl h) = rw h.none (omega arith)
  one_length u s n q (inr (inl h)) = rw h.none (omega arith)
  one_length u s n q (inr (inr h)) = rw h.one (omega arith)

  offers_front : (s : ℕ) (xs ys : List (Offer M P W)) → IsPrefix xs ys → IsPrefix (offers_for s xs) (offers_for s ys)
  offers_front s xs ys p = (offers_for s p.0, sym (offers_for-append s xs p.0) ∙ ap (offers_for s) p.1)

  recorded_case : (u s : ℕ) (n : Router M P W) (q : List (Offer M P W)) (c : ℕ → End M) → n.recorder.copy s ≡ Some c → Stage g u n q s
      → ((n.recorder.unfinished ≡ Some s) × (offers_for s q ≡ [])) ⊎ ((n.recorder.unfinished ≢ Some s) × (length (offers_for s q) ≡ 1))
  recorded_case u s n q c is (inl h) = absurd (let e = h.copy in cc (e, is))
  recorded_case u s n q c is (inr (inl h)) = inl (h.unfinished, h.none)
  recorded_case u s n q c is (inr (inr h)) = inr (h.unfinished, rw h.one refl)

  none_case : (u s : ℕ) (n : Router M P W) (q : List (Offer M P W)) → n.recorder.copy s ≡ None → Stage g u n q s → offers_for s q ≡ []
  none_case u s n q is (inl h) = h.none
  none_case u s n q is (inr (inl h)) = h.none
  none_case u s n q is (inr (inr h)) = absurd (h.recorded is)

module _ {M P W : Type 0} where
  pub offers_aside : OffersAside M P W
  offers_aside g ts r = aside_from g ts (first_offering g) r

  pub at_most_one_offer : AtMostOneOffer M P W
  at_most_one_offer g ts r u s =
      let h = final_facts g ts r in
      let one = one_length g u s ((final g ts).routers u) ((final g ts).queued u) (h.stages u s) in
      let less = prefix_length (offers_for s (made_by u (final g ts).made)) (offers_for s ((final g ts).queued u)) (offers_front g s (made_by u (final g ts).made) ((final g ts).queued u) (h.made u)) in
      (one, omega (arith, one, less))

  pub recorded_or_offered : RecordedOrOffered M P W
  recorded_or_offered g ts r u s c is = recorded_case g u s ((final g ts).routers u) ((final g ts).queued u) c is ((final_facts g ts r).stages u s)

  pub no_offer_before_its_recording : NoOfferBeforeItsRecording M P W
  no_offer_before_its_recording g ts r u s is =
      let h = final_facts g ts r in
      let none = none_case g u s ((final g ts).routers u) ((final g ts).queued u) is (h.stages u s) in
      let front = offers_front g s (made_by u (final g ts).made) ((final g ts).queued u) (h.made u) in
      (none, prefix_none (offers_for s (made_by u (final g ts).made)) (offers_for s ((final g ts).queued u)) front none)
