-- What a router has queued of each number, and how each event keeps it.
use Rattle.std.proofs.Common.{◌≡◌, ◌≢◌, ℕ, ◌<◌, ◌≤◌, ◌==◌, Bool, true, false, cond, List, [], ◌∷◌, ◌++◌, Option, Some, None, refl, ap, sym, ◌∙◌, arith, subst, inl, inr, ◌⊎◌}
use Rattle.run_model.specs.Links.{Dials, Tells, Marks, HangsUp, Takes, greatest_dial, is_up}
use Rattle.run_model.specs.Recordings.{Recorder, Act, Moves, EndsChannel, IgnoresMarker, Begins, Follows, Finishes}
use Rattle.run_model.specs.Routes.{Network, Router, Routers, Event, Acts, Advertise, Decide, Command, router_after, MayHappen}
use Rattle.run_model.specs.Offers.{Cause, NotUp, Closed, Superseded, Part, Offer, Finished, Lost, number_of, offers_for, lost_by_close, Supersedes, BeginsLost, Records, IsPartOf, QueuesByAct, Queues}
use Rattle.run_model.proofs.RecordingFacts.{IsLow}
use Rattle.std.proofs.lemmas.List.{append-nil}
use Rattle.std.proofs.lemmas.List.Elements.{filter-append}
use Rattle.std.proofs.lemmas.Bool.Decides.{nat_tests}

module _ {M P W : Type 0} where
  pub offers_for-append : (s : ℕ) (xs ys : List (Offer M P W)) → offers_for s (xs ++ ys) ≡ offers_for s xs ++ offers_for s ys
  offers_for-append s xs ys = filter-append (λ o. number_of o == s) xs ys

  pub no_more : (s : ℕ) (xs ys : List (Offer M P W)) → offers_for s ys ≡ [] → offers_for s (xs ++ ys) ≡ offers_for s xs
  no_more s xs ys none = offers_for-append s xs ys ∙ (ap (λ i. offers_for s xs ++ i) none ∙ append-nil (offers_for s xs))

  pub first_one : (s : ℕ) (xs ys : List (Offer M P W)) → offers_for s xs ≡ [] → offers_for s (xs ++ ys) ≡ offers_for s ys
  first_one s xs ys none = offers_for-append s xs ys ∙ ap (λ i. i ++ offers_for s ys) none

  -- a Lost of this number, and of another
  pub lost_here : (s k v e : ℕ) (cause : Cause) → k ≡ s → offers_for {M = M} {P = P} {W = W} s (Lost k v e cause ∷ []) ≡ Lost k v e cause ∷ []
  lost_here s k v e cause is = let hit : (k == s) ≡ true = grind (arith, nat_tests, is) in rw hit refl

  pub lost_elsewhere : (s k v e : ℕ) (cause : Cause) → k ≢ s → offers_for {M = M} {P = P} {W = W} s (Lost k v e cause ∷ []) ≡ []
  lost_elsewhere s k v e cause is = let miss : (k == s) ≡ false = grind (arith, nat_tests, is) in rw miss refl

  pub part_here : (s k : ℕ) (part : Part M P W) → k ≡ s → offers_for s (Finished k part ∷ []) ≡ Finished k part ∷ []
  part_here s k part is = let hit : (k == s) ≡ true = grind (arith, nat_tests, is) in rw hit refl

  pub part_elsewhere : (s k : ℕ) (part : Part M P W) → k ≢ s → offers_for s (Finished k part ∷ []) ≡ []
  part_elsewhere s k part is = let miss : (k == s) ≡ false = grind (arith, nat_tests, is) in rw miss refl

  -- what was recorded as a number stays
  pub record Keeps (n n' : Router M P W) (s : ℕ) : Type 0 where
    pub copy : n'.recorder.copy s ≡ n.recorder.copy s
    pub part : n'.recorder.part s ≡ n.recorder.part s
    pub kept : n'.kept_at s ≡ n.kept_at s
    pub originated : n'.originated_at s ≡ n.originated_at s
    pub last : n.recorder.last ≤ n'.recorder.last

module _ {M P W : Type 0} (g : Network M P W) where
  pub part_of_keeps : (u : ℕ) (n n' : Router M P W) (s : ℕ) (channels : ℕ → List M) (part : Part M P W) → n'.recorder.copy s ≡ n.recorder.copy s → n'.kept_at s ≡ n.kept_at s → n'.originated_at s ≡ n.originated_at s
      → IsPartOf g u n s channels part → IsPartOf g u n' s channels part
  part_of_keeps u n n' s channels part copy kept originated h =
      (h.0, copy ∙ h.1, rw kept h.2, rw originated h.3, h.4, rw (kept, originated) h.5, h.6)

  -- the one offer of a number says what was recorded, or that it is lost
  abbrev pub OfferFact : ℕ → Router M P W → ℕ → Offer M P W → Type 0
  OfferFact u n s (Finished k part) = (channels : ℕ → List M) × (n.recorder.part s ≡ Some channels) × IsPartOf g u n s channels part
  OfferFact u n s (Lost k v e cause) = n.recorder.part s ≡ None

  pub fact_keeps : (u : ℕ) (n n' : Router M P W) (s : ℕ) (o : Offer M P W) → Keeps n n' s → OfferFact u n s o → OfferFact u n' s o
  fact_keeps u n n' s (Finished k part) h f = (f.0, h.part ∙ f.1, part_of_keeps u n n' s f.0 part h.copy h.kept h.originated f.2)
  fact_keeps u n n' s (Lost k v e cause) h f = h.part ∙ f

  -- a number at a router: not recorded, being recorded, or offered
  pub record NotRecorded (n : Router M P W) (q : List (Offer M P W)) (s : ℕ) : Type 0 where
    pub copy : n.recorder.copy s ≡ None
    pub part : n.recorder.part s ≡ None
    pub unfinished : n.recorder.unfinished ≢ Some s
    pub none : offers_for s q ≡ []

  pub record InWindow (n : Router M P W) (q : List (Offer M P W)) (s : ℕ) : Type 0 where
    pub recorded : n.recorder.copy s ≢ None
    pub part : n.recorder.part s ≡ None
    pub unfinished : n.recorder.unfinished ≡ Some s
    pub none : offers_for s q ≡ []

  pub record HasOffered (u : ℕ) (n : Router M P W) (q : List (Offer M P W)) (s : ℕ) : Type 0 where
    pub offer : Offer M P W
    pub one : offers_for s q ≡ offer ∷ []
    pub unfinished : n.recorder.unfinished ≢ Some s
    pub recorded : n.recorder.copy s ≢ None
    pub below : s ≤ n.recorder.last
    pub fact : OfferFact u n s offer

  abbrev pub Stage : ℕ → Router M P W → List (Offer M P W) → ℕ → Type 0
  Stage u n q s = NotRecorded n q s ⊎ (InWindow n q s ⊎ HasOffered u n q s)

  -- an event that leaves the unfinished recording and offers nothing of this number
  stage_same : (u : ℕ) (n n' : Router M P W) (q os : List (Offer M P W)) (s : ℕ) → Keeps n n' s → n'.recorder.unfinished ≡ n.recorder.unfinished → offers_for s os ≡ [] → Stage u n q s → Stage u n' (q ++ os) s
  stage_same u n n' q os s k same none (inl h) = inl (record { copy = k.copy ∙ h.copy; part = k.part ∙ h.part; unfinished = λ e. h.unfinished (sym same ∙ e); none = no_more s q os none ∙ h.none })
  stage_same u n n' q os s k same none (inr (inl h)) = inr (inl (record { recorded = λ e. h.recorded (sym k.copy ∙ e); part = k.part ∙ h.part; unfinished = same ∙ h.unfinished; none = no_more s q os none ∙ h.none }))
  stage_same u n n' q os s k same none (inr (inr h)) =
      let l = k.last in let b = h.below in
      inr (inr (record { offer = h.offer; one = no_more s q os none ∙ h.one; unfinished = λ e. h.unfinished (sym same ∙ e); recorded = λ e. h.recorded (sym k.copy ∙ e); below = omega (arith, l, b); fact = fact_keeps u n n' s h.offer k h.fact }))

  -- one that ends the unfinished recording of another number
  stage_other : (u : ℕ) (n n' : Router M P W) (q os : List (Offer M P W)) (s : ℕ) → Keeps n n' s → n.recorder.unfinished ≢ Some s → n'.recorder.unfinished ≢ Some s → offers_for s os ≡ [] → Stage u n q s → Stage u n' (q ++ os) s
  stage_other u n n' q os s k was now none (inl h) = inl (record { copy = k.copy ∙ h.copy; part = k.part ∙ h.part; unfinished = now; none = no_more s q os none ∙ h.none })
  stage_other u n n' q os s k was now none (inr (inl h)) = absurd (was h.unfinished)
  stage_other u n n' q os s k was now none (inr (inr h)) =
      let l = k.last in let b = h.below in
      inr (inr (record { offer = h.offer; one = no_more s q os none ∙ h.one; unfinished = now; recorded = λ e. h.recorded (sym k.copy ∙ e); below = omega (arith, l, b); fact = fact_keeps u n n' s h.offer k h.fact }))

  -- one that ends the unfinished recording of this number, by its one offer
  stage_offers : (u : ℕ) (n n' : Router M P W) (q os : List (Offer M P W)) (s : ℕ) (o : Offer M P W) → n'.recorder.copy s ≡ n.recorder.copy s → n.recorder.unfinished ≡ Some s → n'.recorder.unfinished ≢ Some s → s ≤ n'.recorder.last → offers_for s os ≡ o ∷ []
      → (n.recorder.part s ≡ None → OfferFact u n' s o) → Stage u n q s → Stage u n' (q ++ os) s
  stage_offers u n n' q os s o copy was now low one fact (inl h) = absurd (h.unfinished was)
  stage_offers u n n' q os s o copy was now low one fact (inr (inl h)) = inr (inr (record { recorded = λ e. h.recorded (sym copy ∙ e); offer = o; one = first_one s q os h.none ∙ one; unfinished = now; below = low; fact = fact h.part }))
  stage_offers u n n' q os s o copy was now low one fact (inr (inr h)) = absurd (h.unfinished was)

  -- a close
  close_keeps : (u : ℕ) (n : Router M P W) (v s : ℕ) → Keeps n (router_after g u n (Acts (Moves v HangsUp))) s
  close_keeps u n v s = record { copy = refl; part = refl; kept = refl; originated = refl; last = omega arith }

  close_stage : (u : ℕ) (n : Router M P W) (v e s : ℕ) (q : List (Offer M P W)) (up : Bool) (unfinished : Option ℕ) → is_up (n.recorder.ends v) ≡ up → n.recorder.unfinished ≡ unfinished → IsLow n.recorder
      → Stage u n q s → Stage u (router_after g u n (Acts (Moves v HangsUp))) (q ++ lost_by_close up unfinished v e) s
  close_stage u n v e s q false unfinished up is low h = stage_same u n (router_after g u n (Acts (Moves v HangsUp))) q [] s (close_keeps u n v s) (rw up refl) refl h
  close_stage u n v e s q true None up is low h = stage_same u n (router_after g u n (Acts (Moves v HangsUp))) q [] s (close_keeps u n v s) (rw up (sym is)) refl h
  close_stage u n v e s q true (Some k) up is low h = by_number (k == s) refl
    where
      after : n.recorder.unfinished ≡ Some k → (router_after g u n (Acts (Moves v HangsUp))).recorder.unfinished ≢ Some s
      after x = rw up (λ c. cc c)

      by_number : (b : Bool) → (k == s) ≡ b → Stage u (router_after g u n (Acts (Moves v HangsUp))) (q ++ lost_by_close true (Some k) v e) s
      by_number true here =
          let same : k ≡ s = grind (arith, nat_tests, here) in
          let was : n.recorder.unfinished ≡ Some s = is ∙ ap (λ (i : ℕ). Some i) same in
          stage_offers u n (router_after g u n (Acts (Moves v HangsUp))) q (lost_by_close true (Some k) v e) s (Lost k v e Closed) refl was (after is) (low s was) (lost_here s k v e Closed same) (λ p. p) h
      by_number false here =
          let apart : k ≢ s = grind (arith, nat_tests, here) in
          stage_other u n (router_after g u n (Acts (Moves v HangsUp))) q (lost_by_close true (Some k) v e) s (close_keeps u n v s) (λ x. apart (cc (is, x))) (after is) (lost_elsewhere s k v e Closed apart) h

  -- an act that records a number
  pub record RecordsNow (n n' : Router M P W) (k : ℕ) (whole : Bool) : Type 0 where
    pub last : n'.recorder.last ≡ k
    pub unfinished : n'.recorder.unfinished ≡ cond whole (Some k) None
    pub part : (s : ℕ) → n'.recorder.part s ≡ n.recorder.part s
    pub here : n'.recorder.copy k ≢ None
    pub copy : (s : ℕ) → (s == k) ≡ false → n'.recorder.copy s ≡ n.recorder.copy s
    pub kept : (s : ℕ) → (s == k) ≡ false → n'.kept_at s ≡ n.kept_at s
    pub originated : (s : ℕ) → (s == k) ≡ false → n'.originated_at s ≡ n.originated_at s

  begins_now : (u : ℕ) (n : Router M P W) (k : ℕ) (whole : Bool) → RecordsNow n (router_after g u n (Acts (Begins k whole))) k whole
  begins_now u n k whole = record {
    last = refl;
    unfinished = refl;
    part = λ s. refl;
    here = λ e. (let hit : (k == k) ≡ true = grind (arith, nat_tests) in let f = rw hit at e in cc f);
    copy = λ s e. rw e refl;
    kept = λ s e. rw e refl;
    originated = λ s e. rw e refl;
  }

  follows_now : (u : ℕ) (n : Router M P W) (v e k : ℕ) (whole : Bool) → RecordsNow n (router_after g u n (Acts (Follows v e k whole))) k whole
  follows_now u n v e k whole = record {
    last = refl;
    unfinished = refl;
    part = λ s. refl;
    here = λ e. (let hit : (k == k) ≡ true = grind (arith, nat_tests) in let f = rw hit at e in cc f);
    copy = λ s e. rw e refl;
    kept = λ s e. rw e refl;
    originated = λ s e. rw e refl;
  }

  -- what is queued for a number that isn't the one recorded now
  then_elsewhere : (u : ℕ) (x : Recorder M) (k s : ℕ) (whole : Bool) (os : List (Offer M P W)) → k ≢ s → BeginsLost g u x k whole os → offers_for s os ≡ []
  then_elsewhere u x k s true os apart h = rw h refl
  then_elsewhere u x k s false os apart h = rw h.2 (lost_elsewhere s k h.0 (greatest_dial (x.ends h.0).appended) NotUp apart)

  first_elsewhere : (u : ℕ) (x : Recorder M) (s : ℕ) (unfinished : Option ℕ) (os : List (Offer M P W)) → unfinished ≢ Some s → Supersedes g u x unfinished os → offers_for s os ≡ []
  first_elsewhere u x s None os apart h = rw h refl
  first_elsewhere u x s (Some j) os apart h =
      let other : j ≢ s = λ e. apart (ap (λ (i : ℕ). Some i) e) in
      rw h.2 (lost_elsewhere s j h.0 (greatest_dial (x.ends h.0).appended) Superseded other)

  none_now : (whole : Bool) (k s : ℕ) → k ≢ s → cond whole (Some k) None ≢ Some s
  none_now true k s apart = λ e. apart (cc e)
  none_now false k s apart = λ e. cc e

  -- the number recorded now
  record_here : (u : ℕ) (n n' : Router M P W) (k : ℕ) (whole : Bool) (q first then : List (Offer M P W)) → RecordsNow n n' k whole → n.recorder.last < k → offers_for k first ≡ [] → BeginsLost g u n.recorder k whole then
      → NotRecorded n q k → Stage u n' (q ++ (first ++ then)) k
  record_here u n n' k true q first then now above none h r =
      let nothing : offers_for k (first ++ then) ≡ [] = first_one k first then none ∙ rw h refl in
      inr (inl (record { recorded = now.here; part = now.part k ∙ r.part; unfinished = now.unfinished; none = no_more k q (first ++ then) nothing ∙ r.none }))
  record_here u n n' k false q first then now above none h r =
      let one : offers_for k (first ++ then) ≡ Lost k h.0 (greatest_dial (n.recorder.ends h.0).appended) NotUp ∷ [] =
      first_one k first then none ∙ rw h.2 (lost_here k k h.0 (greatest_dial (n.recorder.ends h.0).appended) NotUp refl) in
      let l = now.last in
      inr (inr (record {
        offer = Lost k h.0 (greatest_dial (n.recorder.ends h.0).appended) NotUp;
        one = first_one k q (first ++ then) r.none ∙ one;
        unfinished = λ e. cc (now.unfinished, e);
        recorded = now.here;
        below = omega (arith, l);
        fact = now.part k ∙ r.part;
      }))

  -- a number below
  record_keeps : (n n' : Router M P W) (k s : ℕ) (whole : Bool) → RecordsNow n n' k whole → n.recorder.last < k → k ≢ s → Keeps n n' s
  record_keeps n n' k s whole now above apart =
      let miss : (s == k) ≡ false = grind (arith, nat_tests, apart) in
      let l = now.last in
      record { copy = now.copy s miss; part = now.part s; kept = now.kept s miss; originated = now.originated s miss; last = omega (arith, above, l) }

  record_below : (u : ℕ) (n n' : Router M P W) (k s : ℕ) (whole : Bool) (q first then : List (Offer M P W)) (unfinished : Option ℕ) → n.recorder.unfinished ≡ unfinished → RecordsNow n n' k whole → n.recorder.last < k → k ≢ s → IsLow n.recorder
      → Supersedes g u n.recorder unfinished first → BeginsLost g u n.recorder k whole then → Stage u n q s → Stage u n' (q ++ (first ++ then)) s
  record_below u n n' k s whole q first then None is now above apart low sup lost h =
      let nothing : offers_for s (first ++ then) ≡ [] = first_one s first then (rw sup refl) ∙ then_elsewhere u n.recorder k s whole then apart lost in
      stage_other u n n' q (first ++ then) s (record_keeps n n' k s whole now above apart) (λ e. cc (is, e)) (λ e. none_now whole k s apart (sym now.unfinished ∙ e)) nothing h
  record_below u n n' k s whole q first then (Some j) is now above apart low sup lost h = by_number (j == s) refl
    where
      rest : offers_for s then ≡ []
      rest = then_elsewhere u n.recorder k s whole then apart lost

      by_number : (b : Bool) → (j == s) ≡ b → Stage u n' (q ++ (first ++ then)) s
      by_number true here =
          let same : j ≡ s = grind (arith, nat_tests, here) in
          let was : n.recorder.unfinished ≡ Some s = is ∙ ap (λ (i : ℕ). Some i) same in
          let one : offers_for s (first ++ then) ≡ Lost j sup.0 (greatest_dial (n.recorder.ends sup.0).appended) Superseded ∷ [] =
          no_more s first then rest ∙ rw sup.2 (lost_here s j sup.0 (greatest_dial (n.recorder.ends sup.0).appended) Superseded same) in
          let l = now.last in let b = low s was in
          stage_offers u n n' q (first ++ then) s (Lost j sup.0 (greatest_dial (n.recorder.ends sup.0).appended) Superseded) (now.copy s (let miss : (s == k) ≡ false = grind (arith, nat_tests, apart) in miss)) was (λ e. none_now whole k s apart (sym now.unfinished ∙ e)) (omega (arith, l, b, above)) one
          (λ p. now.part s ∙ p) h
      by_number false here =
          let other : j ≢ s = grind (arith, nat_tests, here) in
          let nothing : offers_for s (first ++ then) ≡ [] = first_one s first then (rw sup.2 (lost_elsewhere s j sup.0 (greatest_dial (n.recorder.ends sup.0).appended) Superseded other)) ∙ rest in
          stage_other u n n' q (first ++ then) s (record_keeps n n' k s whole now above apart) (λ e. other (cc (is, e))) (λ e. none_now whole k s apart (sym now.unfinished ∙ e)) nothing h

  new_number : (u : ℕ) (n : Router M P W) (q : List (Offer M P W)) (k : ℕ) → n.recorder.last < k → IsLow n.recorder → Stage u n q k → NotRecorded n q k
  new_number u n q k above low (inl h) = h
  new_number u n q k above low (inr (inl h)) = absurd (let b = low k h.unfinished in omega (arith, b, above))
  new_number u n q k above low (inr (inr h)) = absurd (let b = h.below in omega (arith, b, above))

  record_stage : (u : ℕ) (n n' : Router M P W) (k s : ℕ) (whole : Bool) (q os : List (Offer M P W)) (b : Bool) → (k == s) ≡ b → RecordsNow n n' k whole → n.recorder.last < k → IsLow n.recorder → Records g u n.recorder k whole os
      → Stage u n q s → Stage u n' (q ++ os) s
  record_stage u n n' k s whole q os true is now above low r h =
      let same : k ≡ s = grind (arith, nat_tests, is) in
      let here : Stage u n q k = subst (λ i. Stage u n q i) (sym same) h in
      let apart : n.recorder.unfinished ≢ Some k = λ e. (let b = low k e in omega (arith, b, above)) in
      let then : Stage u n' (q ++ (r.0 ++ r.1)) k = record_here u n n' k whole q r.0 r.1 now above (first_elsewhere u n.recorder k n.recorder.unfinished r.0 apart r.2) r.3 (new_number u n q k above low here) in
      subst (λ i. Stage u n' (q ++ i) s) (sym r.4) (subst (λ i. Stage u n' (q ++ (r.0 ++ r.1)) i) same then)
  record_stage u n n' k s whole q os false is now above low r h =
      let apart : k ≢ s = grind (arith, nat_tests, is) in
      subst (λ i. Stage u n' (q ++ i) s) (sym r.4) (record_below u n n' k s whole q r.0 r.1 n.recorder.unfinished refl now above apart low r.2 r.3 h)

  -- a recording that finishes
  finish_stage : (u : ℕ) (n : Router M P W) (k s : ℕ) (part : Part M P W) (q : List (Offer M P W)) (b : Bool) → (s == k) ≡ b → n.recorder.unfinished ≡ Some k → IsLow n.recorder → IsPartOf g u n k n.recorder.channel part
      → Stage u n q s → Stage u (router_after g u n (Acts (Finishes k))) (q ++ Finished k part ∷ []) s
  finish_stage u n k s part q true is was low p h =
      let same : k ≡ s = grind (arith, nat_tests, is) in
      let n' : Router M P W = router_after g u n (Acts (Finishes k)) in
      let here : n.recorder.unfinished ≡ Some s = was ∙ ap (λ (i : ℕ). Some i) same in
      let now : n'.recorder.part s ≡ Some n.recorder.channel = ap (λ i. cond i (Some n.recorder.channel) (n.recorder.part s)) is in
      let q' : IsPartOf g u n s n.recorder.channel part = subst (λ i. IsPartOf g u n i n.recorder.channel part) same p in
      let fact : OfferFact u n' s (Finished k part) = (n.recorder.channel, now, part_of_keeps u n n' s n.recorder.channel part refl refl refl q') in
      stage_offers u n n' q (Finished k part ∷ []) s (Finished k part) refl here (λ e. cc e) (low s here) (part_here s k part same) (λ x. fact) h
  finish_stage u n k s part q false is was low p h =
      let apart : k ≢ s = grind (arith, nat_tests, is) in
      let n' : Router M P W = router_after g u n (Acts (Finishes k)) in
      let keeps : Keeps n n' s = record { copy = refl; part = rw is refl; kept = refl; originated = refl; last = omega arith } in
      stage_other u n n' q (Finished k part ∷ []) s keeps (λ e. apart (cc (was, e))) (λ e. cc e) (part_elsewhere s k part apart) h

  queues_none : (s : ℕ) (os : List (Offer M P W)) → os ≡ [] → offers_for s os ≡ []
  queues_none s os e = rw e refl

  act_stage : (w : Routers M P W) (u s : ℕ) (act : Act M) (q os : List (Offer M P W)) → IsLow (w u).recorder → MayHappen g w u (Acts act) → QueuesByAct g u (w u) act os → Stage u (w u) q s
      → Stage u (router_after g u (w u) (Acts act)) (q ++ os) s
  act_stage w u s (Moves v Dials) q os low may queues h =
      stage_same u (w u) (router_after g u (w u) (Acts (Moves v Dials))) q os s (record { copy = refl; part = refl; kept = refl; originated = refl; last = omega arith }) refl (queues_none s os queues) h
  act_stage w u s (Moves v (Tells m)) q os low may queues h =
      stage_same u (w u) (router_after g u (w u) (Acts (Moves v (Tells m)))) q os s (record { copy = refl; part = refl; kept = refl; originated = refl; last = omega arith }) refl (queues_none s os queues) h
  act_stage w u s (Moves v (Marks k)) q os low may queues h = absurd may.0.1
  act_stage w u s (Moves v HangsUp) q os low may queues h =
      subst (λ i. Stage u (router_after g u (w u) (Acts (Moves v HangsUp))) (q ++ i) s) (sym queues)
      (close_stage u (w u) v (greatest_dial ((w u).recorder.ends v).appended) s q (is_up ((w u).recorder.ends v)) (w u).recorder.unfinished refl refl low h)
  act_stage w u s (Moves v (Takes x)) q os low may queues h =
      stage_same u (w u) (router_after g u (w u) (Acts (Moves v (Takes x)))) q os s (record { copy = refl; part = refl; kept = refl; originated = refl; last = omega arith }) refl (queues_none s os queues) h
  act_stage w u s (EndsChannel v e k) q os low may queues h =
      stage_same u (w u) (router_after g u (w u) (Acts (EndsChannel v e k))) q os s (record { copy = refl; part = refl; kept = refl; originated = refl; last = omega arith }) refl (queues_none s os queues) h
  act_stage w u s (IgnoresMarker v e k) q os low may queues h =
      stage_same u (w u) (router_after g u (w u) (Acts (IgnoresMarker v e k))) q os s (record { copy = refl; part = refl; kept = refl; originated = refl; last = omega arith }) refl (queues_none s os queues) h
  act_stage w u s (Begins k whole) q os low may queues h = record_stage u (w u) (router_after g u (w u) (Acts (Begins k whole))) k s whole q os (k == s) refl (begins_now u (w u) k whole) may.0.0 low queues h
  act_stage w u s (Follows v e k whole) q os low may queues h = record_stage u (w u) (router_after g u (w u) (Acts (Follows v e k whole))) k s whole q os (k == s) refl (follows_now u (w u) v e k whole) may.0.4 low queues h
  act_stage w u s (Finishes k) q os low may queues h =
      subst (λ i. Stage u (router_after g u (w u) (Acts (Finishes k))) (q ++ i) s) (sym queues.2) (finish_stage u (w u) k s queues.0 q (s == k) refl may.0.0 low queues.1 h)

  pub event_stage : (w : Routers M P W) (u s : ℕ) (event : Event M P W) (q os : List (Offer M P W)) → IsLow (w u).recorder → MayHappen g w u event → Queues g u (w u) event os → Stage u (w u) q s
      → Stage u (router_after g u (w u) event) (q ++ os) s
  event_stage w u s (Acts act) q os low may queues h = act_stage w u s act q os low may queues h
  event_stage w u s (Advertise v p m) q os low may queues h =
      stage_same u (w u) (router_after g u (w u) (Advertise v p m)) q os s (record { copy = refl; part = refl; kept = refl; originated = refl; last = omega arith }) refl (queues_none s os queues) h
  event_stage w u s (Decide p) q os low may queues h =
      stage_same u (w u) (router_after g u (w u) (Decide p)) q os s (record { copy = refl; part = refl; kept = refl; originated = refl; last = omega arith }) refl (queues_none s os queues) h
  event_stage w u s (Command originated kept) q os low may queues h =
      stage_same u (w u) (router_after g u (w u) (Command originated kept)) q os s (record { copy = refl; part = refl; kept = refl; originated = refl; last = omega arith }) refl (queues_none s os queues) h
