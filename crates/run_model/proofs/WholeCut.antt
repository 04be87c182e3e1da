-- What was finished was recorded, and the recordings of all routers make one cut.
use Rattle.std.proofs.Common.{◌≡◌, ◌≢◌, ℕ, suc, ◌==◌, Bool, true, false, cond, List, [], ◌∷◌, Some, refl, ap, sym, ◌∙◌, arith, subst}
use Rattle.run_model.specs.Links.{End, Mark, taking, is_up}
use Rattle.run_model.specs.Recordings.{Recorder, Act, Moves, EndsChannel, IgnoresMarker, Begins, Follows, Finishes, with_end, marked, recorder_after, MayAct}
use Rattle.run_model.specs.Routes.{Network, IsNetwork, Routers, Event, Acts, Advertise, Decide, Command, NetworkStep, MayHappen, router_after, advanced, IsNetworkRun, routers_after, first_routers, IsRunOf, reached, HasAllParts}
use Rattle.run_model.specs.Places.{RecordsAt, IsCutOfLink, after_own, FinishedWasRecorded, end_inside, RecordingsMakeACut}
use Rattle.run_model.proofs.RecordingFacts.{CopyFacts, unfinished_was, whole_was, new_copy}
use Rattle.run_model.proofs.RecordingRuns.{RunFacts, holds_start, copies_stay}
use Rattle.run_model.proofs.SettledFacts.{recorders_of, facts_step}
use Rattle.run_model.proofs.CutPlaces.{only_once, recorded_at_one_place, link_cut}
use Rattle.std.proofs.lemmas.Bool.Decides.{nat_tests}

module _ {M : Type 0} where
  -- what is being recorded, or finished, has its copy
  pub record HasCopies (x : Recorder M) : Type 0 where
    pub unfinished : (s : ℕ) → x.unfinished ≡ Some s → (c : ℕ → End M) × (x.copy s ≡ Some c)
    pub parts : (s : ℕ) (channels : ℕ → List M) → x.part s ≡ Some channels → (c : ℕ → End M) × (x.copy s ≡ Some c)

  part_case : (x : Recorder M) (s k : ℕ) (channels : ℕ → List M) (b : Bool) → (s == k) ≡ b → x.unfinished ≡ Some k → HasCopies x → cond b (Some x.channel) (x.part s) ≡ Some channels → (c : ℕ → End M) × (x.copy s ≡ Some c)
  part_case x s k channels true is now h e = let same : s ≡ k = grind (arith, nat_tests, is) in h.unfinished s (now ∙ ap (λ (i : ℕ). Some i) (sym same))
  part_case x s k channels false is now h e = h.parts s channels e

  copies_act : (u : ℕ) (x : Recorder M) (far : ℕ → End M) (linked : ℕ → Bool) (d : Act M) (v : ℕ) → MayAct u x far linked d → CopyFacts x.copy x.last v (x.ends v) → HasCopies x → HasCopies (recorder_after x d)
  copies_act u x far linked (Moves w move) v can l h = record { unfinished = λ s e. h.unfinished s (unfinished_was (is_up (x.ends w)) move x.unfinished s e); parts = h.parts }
  copies_act u x far linked (EndsChannel w e k) v can l h = record { unfinished = h.unfinished; parts = h.parts }
  copies_act u x far linked (IgnoresMarker w e k) v can l h = record { unfinished = h.unfinished; parts = h.parts }
  copies_act u x far linked (Begins k whole) v can l h = record {
    unfinished = λ s e. (let q = whole_was whole k s e in ((λ y. marked k (x.ends y)), subst (λ i. (recorder_after x (Begins k whole)).copy i ≡ Some (λ y. marked k (x.ends y))) q.1 (new_copy x.copy k (λ y. marked k (x.ends y)))));
    parts = λ s channels e. (let c = h.parts s channels e in (c.0, copies_stay u x far linked (Begins k whole) v can l s c.0 c.1));
  }
  copies_act u x far linked (Follows w f k whole) v can l h = record {
    unfinished = λ s e. (let q = whole_was whole k s e in (
      (λ y. marked k (with_end x.ends w (taking (x.ends w) (Mark f k)) y)),
      subst (λ i. (recorder_after x (Follows w f k whole)).copy i ≡ Some (λ y. marked k (with_end x.ends w (taking (x.ends w) (Mark f k)) y))) q.1 (new_copy x.copy k (λ y. marked k (with_end x.ends w (taking (x.ends w) (Mark f k)) y))),
    ));
    parts = λ s channels e. (let c = h.parts s channels e in (c.0, copies_stay u x far linked (Follows w f k whole) v can l s c.0 c.1));
  }
  copies_act u x far linked (Finishes k) v can l h = record {
    unfinished = λ s e. absurd (cc e);
    parts = λ s channels e. part_case x s k channels (s == k) refl can.0 h e;
  }

next_apart : (u : ℕ) → u ≢ suc u
next_apart u h = omega arith

module _ {M P W : Type 0} (g : Network M P W) where
  copies_event : (w : Routers M P W) (u : ℕ) (e : Event M P W) → RunFacts g.linked (recorders_of w) → MayHappen g w u e → HasCopies (w u).recorder → HasCopies (router_after g u (w u) e).recorder
  copies_event w u (Acts d) f may h = copies_act u (w u).recorder (λ v. (w v).recorder.ends u) (g.linked u) d (suc u) may.0 (f.locals u (suc u) (next_apart u)) h
  copies_event w u (Advertise v p m) f may h = record { unfinished = h.unfinished; parts = h.parts }
  copies_event w u (Decide p) f may h = h
  copies_event w u (Command o k) f may h = h

  copies_step : (w : Routers M P W) (t : NetworkStep M P W) (u : ℕ) (b : Bool) → (u == t.router) ≡ b → RunFacts g.linked (recorders_of w) → MayHappen g w t.router t.event → HasCopies (w u).recorder → HasCopies (cond b (router_after g u (w u) t.event) (w u)).recorder
  copies_step w t u true is f may h = let same : t.router ≡ u = grind (arith, nat_tests, is) in copies_event w u t.event f (subst (λ i. MayHappen g w i t.event) same may) h
  copies_step w t u false is f may h = h

  copies_run : (ts : List (NetworkStep M P W)) (w : Routers M P W) → RunFacts g.linked (recorders_of w) → ((u : ℕ) → HasCopies (w u).recorder) → IsNetworkRun g w ts → (u : ℕ) → HasCopies (routers_after g w ts u).recorder
  copies_run [] w f h r u = h u
  copies_run (t ∷ ts) w f h r u = copies_run ts (advanced g w t) (facts_step g w t f r.0) (λ v. copies_step w t v (v == t.router) refl f r.0 (h v)) r.1 u

module _ {M P W : Type 0} where
  pub finished_was_recorded : FinishedWasRecorded M P W
  finished_was_recorded g ts r u s channels is =
      (copies_run g ts (first_routers g) (holds_start g.linked) (λ v. record { unfinished = λ k e. absurd (cc e); parts = λ k ch e. absurd (cc e) }) r u).parts s channels is

module _ {M P W : Type 0} (g : Network M P W) (ts : List (NetworkStep M P W)) (run : IsRunOf g ts) (s : ℕ) (all : HasAllParts g (reached g ts) s) where
  -- the place of each router's recording
  place : (u : ℕ) → g.routers u ≡ true → (k : ℕ) × RecordsAt ts u s k
  place u ru = (let c = finished_was_recorded g ts run u s (all u ru).0 (all u ru).1 in let p = recorded_at_one_place g ts run u s c.0 c.1 in (p.0, p.1))

  pick : (u : ℕ) (b : Bool) → g.routers u ≡ b → ℕ
  pick u true ru = suc (place u ru).0
  pick u false ru = 0

  picked : (u : ℕ) (b : Bool) (is : g.routers u ≡ b) → b ≡ true → (k : ℕ) × (pick u b is ≡ suc k) × RecordsAt ts u s k
  unfolding pick
  picked u true is ru = ((place u is).0, refl, (place u is).1)
  picked u false is ru = absurd (cc ru)

  pick_is : (u j : ℕ) → g.routers u ≡ true → RecordsAt ts u s j → suc j ≡ pick u (g.routers u) refl
  pick_is u j ru at = (let p = picked u (g.routers u) refl ru in ap (λ i. suc i) (only_once g ts (first_routers g) u s j p.0 run at p.2) ∙ sym p.1)

  cut_of_link : IsNetwork g → (u v : ℕ) (channels : ℕ → List M) → g.linked u v ≡ true → (reached g ts u).recorder.part s ≡ Some channels
      → IsCutOfLink g (end_inside g ts (λ i. pick i (g.routers i) refl) u v) (end_inside g ts (λ i. pick i (g.routers i) refl) v u) (channels v)
  cut_of_link net u v channels link is =
      let cut = link_cut g net ts run u v s channels link is in
      let at_u = pick_is u cut.0 (net.known v u (net.both u v link)) cut.2 in
      let at_v = pick_is v cut.1 (net.known u v link) cut.3 in
      subst (λ i. IsCutOfLink g (end_inside g ts (λ j. pick j (g.routers j) refl) u v) ((after_own g (first_routers g) ts v i).recorder.ends u) (channels v)) at_v
      (subst (λ i. IsCutOfLink g ((after_own g (first_routers g) ts u i).recorder.ends v) ((after_own g (first_routers g) ts v (suc cut.1)).recorder.ends u) (channels v)) at_u cut.4)

module _ {M P W : Type 0} where
  pub recordings_make_a_cut : RecordingsMakeACut M P W
  recordings_make_a_cut g net ts r s all =
      ((λ u. pick g ts r s all u (g.routers u) refl), (λ u ru. picked g ts r s all u (g.routers u) refl ru), cut_of_link g ts r s all net)
