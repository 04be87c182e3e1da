-- What stays offered, and how a snapshot comes out.
use Rattle.std.proofs.Common.{◌≡◌, ◌≢◌, ℕ, ◌==◌, Bool, true, false, cond, List, [], ◌∷◌, ◌++◌, Some, refl, ap, sym, ◌∙◌, arith, subst, inl, inr}
use Rattle.std.specs.Prelude.{filter}
use mathlib.Core.List.{IsPrefix}
use Rattle.run_model.specs.Links.{End, HangsUp, greatest_dial}
use Rattle.run_model.specs.Recordings.{Moves}
use Rattle.run_model.specs.Routes.{Network, Router, Event, Acts}
use Rattle.run_model.specs.Offers.{Cause, Closed, Part, Offer, Finished, Lost, IsIn, number_of, offers_for, IsPartOf, Made, Offering, OfferEvent, Happens, Makes, OfferStep, made_by, made_for, offering_after, IsOfferRun, offerings_after, first_offering, final, Decides, Pending, InFlight, OfferRunsGoOn, LostIsFinal, FirstCloseIsLost, PartsAreRecorded, NotAbandonedHasAllParts, SettledOutcomeIsSettled, MismatchNeverComes}
use Rattle.run_model.proofs.EntryLists.{prefix_trans}
use Rattle.run_model.proofs.SettledFacts.{some_same}
use Rattle.run_model.proofs.OfferFacts.{OfferFact, Stage}
use Rattle.run_model.proofs.OfferRuns.{final_facts}
use Rattle.std.proofs.lemmas.List.{append-nil}
use Rattle.std.proofs.lemmas.Bool.Decides.{nat_tests}

-- members of lists
in_left : {A : Type 0} (x : A) (xs ys : List A) → IsIn x xs → IsIn x (xs ++ ys)
in_left x [] ys h = absurd h
in_left x (z ∷ xs) ys (inl e) = inl e
in_left x (z ∷ xs) ys (inr h) = inr (in_left x xs ys h)

pub in_right : {A : Type 0} (x : A) (xs ys : List A) → IsIn x ys → IsIn x (xs ++ ys)
in_right x [] ys h = h
in_right x (z ∷ xs) ys h = inr (in_right x xs ys h)

in_front : {A : Type 0} (x : A) (xs ys : List A) → IsPrefix xs ys → IsIn x xs → IsIn x ys
in_front x xs ys p h = subst (IsIn x) p.1 (in_left x xs p.0 h)

in_filter : {A : Type 0} (test : A → Bool) (x : A) (xs : List A) → test x ≡ true → IsIn x xs → IsIn x (filter test xs)
in_filter test x [] is h = h
in_filter test x (z ∷ xs) is (inl e) = at (test z) (ap test (sym e) ∙ is)
  where
    at : (b : Bool) → b ≡ true → IsIn x (cond b (z ∷ filter test xs) (filter test xs))
    at true q = inl e
    at false q = absurd (cc q)
in_filter test x (z ∷ xs) is (inr h) = at (test z) (in_filter test x xs is h)
  where
    at : (b : Bool) → IsIn x (filter test xs) → IsIn x (cond b (z ∷ filter test xs) (filter test xs))
    at true q = inr q
    at false q = q

of_filter : {A : Type 0} (test : A → Bool) (x : A) (xs : List A) → IsIn x (filter test xs) → IsIn x xs
of_filter test x [] h = h
of_filter test x (z ∷ xs) h = at (test z) (λ q. of_filter test x xs q) h
  where
    at : (b : Bool) → (IsIn x (filter test xs) → IsIn x xs) → IsIn x (cond b (z ∷ filter test xs) (filter test xs)) → IsIn x (z ∷ xs)
    at true rest (inl e) = inl e
    at true rest (inr q) = inr (rest q)
    at false rest q = inr (rest q)

in_one : {A : Type 0} (x y : A) → IsIn x (y ∷ []) → x ≡ y
in_one x y (inl e) = e
in_one x y (inr h) = absurd h

self_test : (s : ℕ) → (s == s) ≡ true
self_test s = grind (arith, nat_tests)

module _ {M P W : Type 0} where
  in_made_by : (u : ℕ) (o : Offer M P W) (ms : List (Made M P W)) → IsIn (record { router = u; offer = o }) ms → IsIn o (made_by u ms)
  in_made_by u o [] h = h
  in_made_by u o (m ∷ ms) (inl e) = at (u == m.router) (ap (λ (i : Made M P W). u == i.router) (sym e) ∙ self_test u)
    where
      at : (b : Bool) → b ≡ true → IsIn o (cond b (m.offer ∷ made_by u ms) (made_by u ms))
      at true q = inl (ap (λ (i : Made M P W). i.offer) e)
      at false q = absurd (cc q)
  in_made_by u o (m ∷ ms) (inr h) = at (u == m.router) (in_made_by u o ms h)
    where
      at : (b : Bool) → IsIn o (made_by u ms) → IsIn o (cond b (m.offer ∷ made_by u ms) (made_by u ms))
      at true q = inr q
      at false q = q

module _ {M P W : Type 0} (g : Network M P W) where
  -- the one offer of a number
  offered_is : (u s : ℕ) (n : Router M P W) (q : List (Offer M P W)) (o : Offer M P W) → number_of o ≡ s → IsIn o q → Stage g u n q s → (offers_for s q ≡ o ∷ []) × OfferFact g u n s o
  offered_is u s n q o number there h = by_stage h
    where
      member : IsIn o (offers_for s q)
      member = in_filter (λ i. number_of i == s) o q (ap (λ i. i == s) number ∙ self_test s) there

      by_stage : Stage g u n q s → (offers_for s q ≡ o ∷ []) × OfferFact g u n s o
      by_stage (inl h) = absurd (subst (IsIn o) h.none member)
      by_stage (inr (inl h)) = absurd (subst (IsIn o) h.none member)
      by_stage (inr (inr h)) =
          let same : o ≡ h.offer = in_one o h.offer (subst (IsIn o) h.one member) in
          (h.one ∙ ap (λ i. i ∷ []) (sym same), subst (OfferFact g u n s) (sym same) h.fact)

  -- queues only grow
  queue_step : (x : Offering M P W) (u y : ℕ) (event : OfferEvent M P W) → IsPrefix (x.queued y) ((offering_after g x u event).queued y)
  queue_step x u y (Happens event os) = at (y == u)
    where
      at : (b : Bool) → IsPrefix (x.queued y) (cond b (x.queued y ++ os) (x.queued y))
      at true = (os, refl)
      at false = ([], append-nil (x.queued y))
  queue_step x u y (Makes offer) = ([], append-nil (x.queued y))

  queue_run : (ts : List (OfferStep M P W)) (x : Offering M P W) (y : ℕ) → IsPrefix (x.queued y) ((offerings_after g x ts).queued y)
  queue_run [] x y = ([], append-nil (x.queued y))
  queue_run (t ∷ ts) x y =
      prefix_trans (x.queued y) ((offering_after g x t.router t.event).queued y) ((offerings_after g x (t ∷ ts)).queued y) (queue_step x t.router y t.event) (queue_run ts (offering_after g x t.router t.event) y)

  after_append : (xs ys : List (OfferStep M P W)) (x : Offering M P W) → offerings_after g x (xs ++ ys) ≡ offerings_after g (offerings_after g x xs) ys
  after_append [] ys x = refl
  after_append (t ∷ xs) ys x = after_append xs ys (offering_after g x t.router t.event)

  pub run_front : (xs ys : List (OfferStep M P W)) (x : Offering M P W) → IsOfferRun g x (xs ++ ys) → IsOfferRun g x xs
  run_front [] ys x r = tt
  run_front (t ∷ xs) ys x r = (r.0, run_front xs ys (offering_after g x t.router t.event) r.1)

  run_rest : (xs ys : List (OfferStep M P W)) (x : Offering M P W) → IsOfferRun g x (xs ++ ys) → IsOfferRun g (offerings_after g x xs) ys
  run_rest [] ys x r = r
  run_rest (t ∷ xs) ys x r = run_rest xs ys (offering_after g x t.router t.event) r.1

  -- what an event queued is in its router's queue from then on
  queued_stays : (before later : List (OfferStep M P W)) (u : ℕ) (event : Event M P W) (os : List (Offer M P W)) (o : Offer M P W) → IsIn o os
      → IsIn o ((final g (before ++ record { router = u; event = Happens event os } ∷ later)).queued u)
  queued_stays before later u event os o there =
      let x : Offering M P W = final g before in
      let y : Offering M P W = offering_after g x u (Happens event os) in
      let grown : y.queued u ≡ x.queued u ++ os = ap (λ i. cond i (x.queued u ++ os) (x.queued u)) (self_test u) in
      let here : IsIn o (y.queued u) = subst (IsIn o) (sym grown) (in_right o (x.queued u) os there) in
      let then : IsIn o ((offerings_after g y later).queued u) = in_front o (y.queued u) ((offerings_after g y later).queued u) (queue_run later y u) here in
      subst (λ (i : Offering M P W). IsIn o (i.queued u)) (sym (after_append before (record { router = u; event = Happens event os } ∷ later) (first_offering g))) then

  go_on : (xs ys : List (OfferStep M P W)) (x : Offering M P W) → IsOfferRun g x xs → IsOfferRun g (offerings_after g x xs) ys → IsOfferRun g x (xs ++ ys)
  go_on [] ys x r q = q
  go_on (t ∷ xs) ys x r q = (r.0, go_on xs ys (offering_after g x t.router t.event) r.1 q)

module _ {M P W : Type 0} where
  pub offer_runs_go_on : OfferRunsGoOn M P W
  offer_runs_go_on g ts more r q = (go_on g ts more (first_offering g) r q, after_append g ts more (first_offering g))

  pub lost_is_final : LostIsFinal M P W
  lost_is_final g before later u s v e cause event os r there =
      let ts : List (OfferStep M P W) = before ++ record { router = u; event = Happens event os } ∷ later in
      (offered_is g u s ((final g ts).routers u) ((final g ts).queued u) (Lost s v e cause) refl (queued_stays g before later u event os (Lost s v e cause) there) ((final_facts g ts r).stages u s)).0

  window_is : (g : Network M P W) (u s : ℕ) (n : Router M P W) (q : List (Offer M P W)) (c : ℕ → End M) → n.recorder.copy s ≡ Some c → offers_for s q ≡ [] → Stage g u n q s → n.recorder.unfinished ≡ Some s
  window_is g u s n q c is none (inl h) = absurd (let k = h.copy in cc (k, is))
  window_is g u s n q c is none (inr (inl h)) = h.unfinished
  window_is g u s n q c is none (inr (inr h)) = absurd (let k = h.one in cc (none, k))

  pub first_close_is_lost : FirstCloseIsLost M P W
  first_close_is_lost g before later u s v os c r is none up =
      let x : Offering M P W = final g before in
      let step : OfferStep M P W = record { router = u; event = Happens (Acts (Moves v HangsUp)) os } in
      let e : ℕ = greatest_dial ((x.routers u).recorder.ends v).appended in
      let window : (x.routers u).recorder.unfinished ≡ Some s =
      window_is g u s (x.routers u) (x.queued u) c is none ((final_facts g before (run_front g before (step ∷ later) (first_offering g) r)).stages u s) in
      let queues = (run_rest g before (step ∷ later) (first_offering g) r).0.1 in
      let what : os ≡ Lost s v e Closed ∷ [] = queues ∙ rw (up, window) refl in
      (what, lost_is_final g before later u s v e Closed (Acts (Moves v HangsUp)) os r (subst (IsIn (Lost s v e Closed)) (sym what) (inl refl)))

  pub parts_are_recorded : PartsAreRecorded M P W
  parts_are_recorded g ts r u s part there =
      let x : Offering M P W = final g ts in
      let h = final_facts g ts r in
      let queued : IsIn (Finished s part) (x.queued u) = in_front (Finished s part) (made_by u x.made) (x.queued u) (h.made u) (in_made_by u (Finished s part) x.made there) in
      (offered_is g u s (x.routers u) (x.queued u) (Finished s part) refl queued (h.stages u s)).1

  -- from a deciding beginning to the offers made
  from_front : (s : ℕ) (front made : List (Made M P W)) (m : Made M P W) → IsPrefix front (made_for s made) → IsIn m front → IsIn m made
  from_front s front made m p h = of_filter (λ i. number_of i.offer == s) m made (in_front m front (made_for s made) p h)

  part_in : (g : Network M P W) (s : ℕ) (front : List (Made M P W)) → Decides g s front → ((w v e : ℕ) (cause : Cause) → IsIn (record { router = w; offer = Lost s v e cause }) front → ⊥)
      → (u : ℕ) → g.routers u ≡ true → (part : Part M P W) × IsIn (record { router = u; offer = Finished s part }) front
  part_in g s front (inl d) none u ru = absurd (none d.0 d.1 d.2 d.3 d.4)
  part_in g s front (inr d) none u ru = d u ru

no_element : {A : Type 0} (xs : List A) → (xs ≢ [] → ⊥) → xs ≡ []
no_element [] h = refl
no_element (x ∷ xs) h = absurd (h (λ e. cc e))

not_true : (b : Bool) → (b ≡ true → ⊥) → b ≡ false
not_true true h = absurd (h refl)
not_true false h = refl

module _ {M P W : Type 0} where
  pub settled_outcome_is_settled : SettledOutcomeIsSettled M P W
  settled_outcome_is_settled g ts r s out u ru =
      let x : Offering M P W = final g ts in
      let p = part_in g s out.0 out.1.1 out.2 u ru in
      let k = parts_are_recorded g ts r u s p.0 (from_front s out.0 x.made (record { router = u; offer = Finished s p.0 }) out.1.0 p.1) in
      let of : IsPartOf g u (x.routers u) s k.0 p.0 = k.2 in
      let calm : p.0.pending ≡ false = not_true p.0.pending (λ e. out.3 u ru Pending (p.0, p.1, e)) in
      let still : (v : ℕ) → g.linked u v ≡ true → p.0.channel v ≡ [] = λ v link. no_element (p.0.channel v) (λ e. out.3 u ru (InFlight v) (p.0, p.1, link, e)) in
      (k.0, of.0, k.1, of.1, (λ v link. sym (of.6 v link) ∙ still v link), of.5.0 calm)

  pub not_abandoned_has_all_parts : NotAbandonedHasAllParts M P W
  not_abandoned_has_all_parts g ts r s = (
    (λ out u ru. (let p = part_in g s out.0 out.1.1 out.2 u ru in let k = parts_are_recorded g ts r u s p.0 (from_front s out.0 (final g ts).made (record { router = u; offer = Finished s p.0 }) out.1.0 p.1) in (k.0, k.1))),
    (λ w why out u ru. (let p = part_in g s out.0 out.1.1 out.2 u ru in let k = parts_are_recorded g ts r u s p.0 (from_front s out.0 (final g ts).made (record { router = u; offer = Finished s p.0 }) out.1.0 p.1) in (k.0, k.1))),
  )

  pub mismatch_never_comes : MismatchNeverComes M P W
  mismatch_never_comes g net ts r s u v out =
      let x : Offering M P W = final g ts in
      let h = final_facts g ts r in
      let shown = out.4 in
      let link = shown.4 in
      let mine = parts_are_recorded g ts r u s shown.0 (from_front s out.0 x.made (record { router = u; offer = Finished s shown.0 }) out.1.0 shown.2) in
      let other = parts_are_recorded g ts r v s shown.1 (from_front s out.0 x.made (record { router = v; offer = Finished s shown.1 }) out.1.0 shown.3) in
      let channel = (h.facts.windows u v (net.apart u v link) link).parts s mine.0 mine.1 in
      let cu : channel.0 ≡ mine.2.0 = some_same channel.0 mine.2.0 ((x.routers u).recorder.copy s) channel.2 mine.2.1 in
      let cv : channel.1 ≡ other.2.0 = some_same channel.1 other.2.0 ((x.routers v).recorder.copy s) channel.3 other.2.1 in
      let one : greatest_dial (mine.2.0 v).appended ≡ greatest_dial (other.2.0 u).appended =
      ap (λ (c : ℕ → End M). greatest_dial (c v).appended) (sym cu) ∙ (channel.4 ∙ ap (λ (c : ℕ → End M). greatest_dial (c u).appended) cv) in
      shown.5 (mine.2.4 v link ∙ (one ∙ sym (other.2.4 u (net.both u v link))))
