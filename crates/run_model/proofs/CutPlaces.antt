-- The places of recordings in a run.
use Rattle.std.proofs.Common.{◌≡◌, ℕ, suc, ◌≤◌, ◌==◌, Bool, true, false, cond, List, [], ◌∷◌, ◌++◌, length, Some, slice_get, refl, ap, sym, ◌∙◌, arith, subst}
use Rattle.std.specs.Prelude.{zero}
use Rattle.run_model.specs.Links.{End, greatest_dial, said}
use Rattle.run_model.specs.Recordings.{Act, recorder_after}
use Rattle.run_model.specs.Routes.{IsNetwork, Network, Router, Routers, Event, Acts, Advertise, Decide, Command, NetworkStep, MayHappen, updates, router_after, advanced, routers_after, first_routers, IsNetworkRun}
use Rattle.run_model.specs.Places.{records_in, own_events, RecordsAt, step_of, after_own, RecordedAtOnePlace, IsCutOfLink}
use Rattle.run_model.proofs.RecordingRuns.{holds_start}
use Rattle.run_model.proofs.SettledFacts.{updates-append, facts_run, some_same}
use Rattle.run_model.proofs.PlaceFacts.{not_again, last_grows, records_its_state, was_recorded}
use Rattle.std.proofs.lemmas.Bool.Decides.{nat_tests}

self_test : (u : ℕ) → (u == u) ≡ true
self_test u = grind (arith, nat_tests)

get_behind : {A : Type 0} (xs : List A) (y : A) (ys : List A) → slice_get (xs ++ y ∷ ys) (length xs) ≡ Some y
get_behind [] y ys = refl
get_behind (x ∷ xs) y ys = get_behind xs y ys

module _ {M P W : Type 0} where
  own_events-append : (u : ℕ) (xs ys : List (NetworkStep M P W)) → own_events u (xs ++ ys) ≡ own_events u xs ++ own_events u ys
  own_events-append u [] ys = refl
  own_events-append u (t ∷ xs) ys = at (u == t.router) (own_events-append u xs ys)
    where
      at : (b : Bool) → own_events u (xs ++ ys) ≡ own_events u xs ++ own_events u ys
          → cond b (t.event ∷ own_events u (xs ++ ys)) (own_events u (xs ++ ys)) ≡ cond b (t.event ∷ own_events u xs) (own_events u xs) ++ own_events u ys
      at true e = ap (λ i. t.event ∷ i) e
      at false e = e

module _ {M P W : Type 0} (g : Network M P W) where
  at_once : (w : Routers M P W) (ts : List (NetworkStep M P W)) (u : ℕ) → after_own g w ts u 0 ≡ w u
  at_once w [] u = refl
  at_once w (t ∷ ts) u = refl

  -- the state after an own event, by how many own events stand before it
  own_place : (xs later : List (NetworkStep M P W)) (w : Routers M P W) (u : ℕ) (act : Act M)
      → after_own g w (xs ++ step_of u act ∷ later) u (suc (length (own_events u xs))) ≡ advanced g (routers_after g w xs) (step_of u act) u
  own_place [] later w u act = at (u == u) (self_test u)
    where
      at : (b : Bool) → b ≡ true → cond b (after_own g (advanced g w (step_of u act)) later u 0) (after_own g (advanced g w (step_of u act)) later u 1) ≡ advanced g w (step_of u act) u
      at true e = at_once (advanced g w (step_of u act)) later u
      at false e = absurd (cc e)
  own_place (t ∷ xs) later w u act = at (u == t.router) (own_place xs later (advanced g w t) u act)
    where
      at : (b : Bool) → after_own g (advanced g w t) (xs ++ step_of u act ∷ later) u (suc (length (own_events u xs))) ≡ advanced g (routers_after g (advanced g w t) xs) (step_of u act) u
          → cond b (after_own g (advanced g w t) (xs ++ step_of u act ∷ later) u (length (cond b (t.event ∷ own_events u xs) (own_events u xs)))) (after_own g (advanced g w t) (xs ++ step_of u act ∷ later) u (suc (length (cond b (t.event ∷ own_events u xs) (own_events u xs)))))
          ≡ advanced g (routers_after g (advanced g w t) xs) (step_of u act) u
      at true e = e
      at false e = e

  -- an event that records a number is above all recorded before
  records_above : (w : Routers M P W) (u s : ℕ) (e : Event M P W) → MayHappen g w u e → s ≤ (w u).recorder.last → records_in e s ≡ true → ⊥
  records_above w u s (Acts act) may low is = cc (is, not_again u (w u).recorder (λ v. (w v).recorder.ends u) (g.linked u) act s may.0 low)
  records_above w u s (Advertise v p m) may low is = cc is
  records_above w u s (Decide p) may low is = cc is
  records_above w u s (Command o k) may low is = cc is

  last_stays : (w : Routers M P W) (u : ℕ) (e : Event M P W) → MayHappen g w u e → (w u).recorder.last ≤ (router_after g u (w u) e).recorder.last
  last_stays w u (Acts act) may = last_grows u (w u).recorder (λ v. (w v).recorder.ends u) (g.linked u) act may.0
  last_stays w u (Advertise v p m) may = omega arith
  last_stays w u (Decide p) may = omega arith
  last_stays w u (Command o k) may = omega arith

  may_at : (w : Routers M P W) (t : NetworkStep M P W) (u : ℕ) → (u == t.router) ≡ true → MayHappen g w t.router t.event → MayHappen g w u t.event
  may_at w t u is may = let same : t.router ≡ u = grind (arith, nat_tests, is) in subst (λ i. MayHappen g w i t.event) same may

  low_after : (w : Routers M P W) (t : NetworkStep M P W) (u s : ℕ) (b : Bool) → (u == t.router) ≡ b → MayHappen g w t.router t.event → s ≤ (w u).recorder.last → s ≤ (cond b (router_after g u (w u) t.event) (w u)).recorder.last
  low_after w t u s true is may low = (let l = last_stays w u t.event (may_at w t u is may) in omega (arith, l, low))
  low_after w t u s false is may low = low

  -- after a number was recorded, no event records it
  never_again : (ts : List (NetworkStep M P W)) (w : Routers M P W) (u s j : ℕ) → IsNetworkRun g w ts → s ≤ (w u).recorder.last → RecordsAt ts u s j → ⊥
  never_again [] w u s zero r low h = absurd (let e = h.1 in cc e)
  never_again [] w u s (suc j) r low h = absurd (let e = h.1 in cc e)
  never_again (t ∷ ts) w u s j r low h = at (u == t.router) refl (λ i k. never_again ts (advanced g w t) u s i r.1 (low_after w t u s (u == t.router) refl r.0 low) k) j h.1
    where
      at : (b : Bool) → (u == t.router) ≡ b → ((i : ℕ) → RecordsAt ts u s i → ⊥) → (j : ℕ) → slice_get (cond b (t.event ∷ own_events u ts) (own_events u ts)) j ≡ Some h.0 → ⊥
      at true is rest zero e = records_above w u s t.event (may_at w t u is r.0) low (ap (λ i. records_in i s) (cc e) ∙ h.2)
      at true is rest (suc i) e = rest i (h.0, e, h.2)
      at false is rest i e = rest i (h.0, e, h.2)

  -- the event that records a number makes it the last
  last_recorded : (n : Router M P W) (u s : ℕ) (e : Event M P W) → records_in e s ≡ true → s ≤ (router_after g u n e).recorder.last
  last_recorded n u s (Acts (Act.Begins k whole)) is = grind (arith, nat_tests, is)
  last_recorded n u s (Acts (Act.Follows v e k whole)) is = grind (arith, nat_tests, is)
  last_recorded n u s (Acts (Act.Moves v m)) is = absurd (cc is)
  last_recorded n u s (Acts (Act.EndsChannel v e k)) is = absurd (cc is)
  last_recorded n u s (Acts (Act.IgnoresMarker v e k)) is = absurd (cc is)
  last_recorded n u s (Acts (Act.Finishes k)) is = absurd (cc is)
  last_recorded n u s (Advertise v p m) is = absurd (cc is)
  last_recorded n u s (Decide p) is = absurd (cc is)
  last_recorded n u s (Command o k) is = absurd (cc is)

  pub only_once : (ts : List (NetworkStep M P W)) (w : Routers M P W) (u s j k : ℕ) → IsNetworkRun g w ts → RecordsAt ts u s j → RecordsAt ts u s k → j ≡ k
  only_once [] w u s zero k r h q = absurd (let e = h.1 in cc e)
  only_once [] w u s (suc j) k r h q = absurd (let e = h.1 in cc e)
  only_once (t ∷ ts) w u s j k r h q = at (u == t.router) refl (λ i n a b. only_once ts (advanced g w t) u s i n r.1 a b) j k h.1 q.1
    where
      then : (e : Event M P W) → t.event ≡ e → (u == t.router) ≡ true → records_in e s ≡ true → s ≤ (advanced g w t u).recorder.last
      then e is here rec =
          subst (λ b. s ≤ (cond b (router_after g u (w u) t.event) (w u)).recorder.last) (sym here) (last_recorded (w u) u s t.event (ap (λ i. records_in i s) is ∙ rec))

      at : (b : Bool) → (u == t.router) ≡ b → ((i n : ℕ) → RecordsAt ts u s i → RecordsAt ts u s n → i ≡ n) → (j k : ℕ)
          → slice_get (cond b (t.event ∷ own_events u ts) (own_events u ts)) j ≡ Some h.0 → slice_get (cond b (t.event ∷ own_events u ts) (own_events u ts)) k ≡ Some q.0 → j ≡ k
      at true is rest zero zero e f = refl
      at true is rest zero (suc n) e f = absurd (never_again ts (advanced g w t) u s n r.1 (then h.0 (cc e) is h.2) (q.0, f, q.2))
      at true is rest (suc i) zero e f = absurd (never_again ts (advanced g w t) u s i r.1 (then q.0 (cc f) is q.2) (h.0, e, h.2))
      at true is rest (suc i) (suc n) e f = ap (λ m. suc m) (rest i n (h.0, e, h.2) (q.0, f, q.2))
      at false is rest i n e f = rest i n (h.0, e, h.2) (q.0, f, q.2)

  own_at : (before later : List (NetworkStep M P W)) (u : ℕ) (act : Act M) → slice_get (own_events u (before ++ step_of u act ∷ later)) (length (own_events u before)) ≡ Some (Acts act)
  own_at before later u act =
      let here : own_events u (step_of u act ∷ later) ≡ Acts act ∷ own_events u later = ap (λ b. cond b (Acts act ∷ own_events u later) (own_events u later)) (self_test u) in
      ap (λ l. slice_get l (length (own_events u before))) (own_events-append u before (step_of u act ∷ later) ∙ ap (λ l. own_events u before ++ l) here)
      ∙ get_behind (own_events u before) (Acts act) (own_events u later)

module _ {M P W : Type 0} where
  pub recorded_at_one_place : RecordedAtOnePlace M P W
  recorded_at_one_place g ts r u s c is =
      let d = was_recorded g ts u s c is in
      let before : List (NetworkStep M P W) = d.0 in
      let later : List (NetworkStep M P W) = d.1 in
      let act : Act M = d.2 in
      let run : IsNetworkRun g (first_routers g) (before ++ step_of u act ∷ later) = subst (IsNetworkRun g (first_routers g)) d.3 r in
      let stands = records_its_state g before later u s act run d.4 in
      let w : Routers M P W = routers_after g (first_routers g) before in
      let k : ℕ = length (own_events u before) in
      let place : after_own g (first_routers g) (before ++ step_of u act ∷ later) u (suc k) ≡ advanced g w (step_of u act) u = own_place g before later (first_routers g) u act in
      let hit : advanced g w (step_of u act) u ≡ router_after g u (w u) (Acts act) = ap (λ b. cond b (router_after g u (w u) (Acts act)) (w u)) (self_test u) in
      let at_place : after_own g (first_routers g) ts u (suc k) ≡ router_after g u (w u) (Acts act) = ap (λ l. after_own g (first_routers g) l u (suc k)) d.3 ∙ (place ∙ hit) in
      let last : routers_after g (first_routers g) ts ≡ routers_after g (first_routers g) (before ++ step_of u act ∷ later) = ap (routers_after g (first_routers g)) d.3 in
      let copy : (recorder_after (w u).recorder act).ends ≡ c =
      some_same (recorder_after (w u).recorder act).ends c ((routers_after g (first_routers g) ts u).recorder.copy s) (ap (λ (i : Routers M P W). (i u).recorder.copy s) last ∙ stands.0) is in
      let recorded : RecordsAt ts u s k = (Acts act, ap (λ l. slice_get (own_events u l) k) d.3 ∙ own_at g before later u act, d.4) in (
        k,
        recorded,
        (λ j h. only_once g ts (first_routers g) u s j k r h recorded),
        ap (λ (n : Router M P W). n.recorder.ends) at_place ∙ copy,
        ap (λ (n : Router M P W). n.kept) at_place ∙ sym (ap (λ (i : Routers M P W). (i u).kept_at s) last ∙ stands.1),
        ap (λ (n : Router M P W). n.originated) at_place ∙ sym (ap (λ (i : Routers M P W). (i u).originated_at s) last ∙ stands.2),
      )

  -- of one link
  pub link_cut : (g : Network M P W) → IsNetwork g → (ts : List (NetworkStep M P W)) → IsNetworkRun g (first_routers g) ts → (u v s : ℕ) (channels : ℕ → List M)
      → g.linked u v ≡ true → (routers_after g (first_routers g) ts u).recorder.part s ≡ Some channels
      → (inside_u inside_v : ℕ) × RecordsAt ts u s inside_u × RecordsAt ts v s inside_v
      × IsCutOfLink g ((after_own g (first_routers g) ts u (suc inside_u)).recorder.ends v) ((after_own g (first_routers g) ts v (suc inside_v)).recorder.ends u) (channels v)
  link_cut g net ts r u v s channels link is =
      let w : Routers M P W = routers_after g (first_routers g) ts in
      let h = facts_run g ts (first_routers g) (holds_start g.linked) r in
      let ch = (h.windows u v (net.apart u v link) link).parts s channels is in
      let pu = recorded_at_one_place g ts r u s ch.0 ch.2 in
      let pv = recorded_at_one_place g ts r v s ch.1 ch.3 in
      let a : End M = ch.0 v in
      let b : End M = ch.1 u in
      let cut : IsCutOfLink g a b (channels v) = record {
        one_incarnation = ch.4;
        consistent = ch.5;
        in_flight = ap (updates g) ch.6 ∙ updates-append g (said (greatest_dial a.appended) a.used) (channels v);
        up = ch.7;
      } in
      let at_u : a ≡ (after_own g (first_routers g) ts u (suc pu.0)).recorder.ends v = ap (λ (c : ℕ → End M). c v) (sym pu.3) in
      let at_v : b ≡ (after_own g (first_routers g) ts v (suc pv.0)).recorder.ends u = ap (λ (c : ℕ → End M). c u) (sym pv.3) in
      (pu.0, pv.0, pu.1, pv.1, subst (λ i. IsCutOfLink g ((after_own g (first_routers g) ts u (suc pu.0)).recorder.ends v) i (channels v)) at_v (subst (λ i. IsCutOfLink g i b (channels v)) at_u cut))
