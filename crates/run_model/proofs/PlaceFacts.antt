-- What is recorded is the state at one event.
use Rattle.std.proofs.Common.{◌≡◌, ◌≢◌, ℕ, ◌<◌, ◌≤◌, ◌==◌, Bool, true, false, cond, List, [], ◌∷◌, ◌++◌, Option, Some, None, refl, ap, sym, ◌∙◌, arith, subst}
use Rattle.run_model.specs.Links.{End, Move, Dials, Tells, Marks, HangsUp, Takes, is_up}
use Rattle.run_model.specs.Recordings.{Recorder, Act, Moves, EndsChannel, IgnoresMarker, Begins, Follows, Finishes, recorder_after, MayAct, unfinished_after}
use Rattle.run_model.specs.Routes.{Network, Router, Event, Acts, Advertise, Decide, Command, router_after, Routers, MayHappen, NetworkStep, advanced, IsNetworkRun, routers_after, first_routers, records}
use Rattle.run_model.specs.Places.{step_of, RecordsItsState, WasRecorded, LostStaysLost}
use Rattle.std.proofs.lemmas.Bool.Decides.{nat_tests}

module _ {M : Type 0} where
  pub not_again : (u : ℕ) (x : Recorder M) (far : ℕ → End M) (linked : ℕ → Bool) (d : Act M) (s : ℕ) → MayAct u x far linked d → s ≤ x.last → records d s ≡ false
  not_again u x far linked (Moves v act) s can l = refl
  not_again u x far linked (EndsChannel v e k) s can l = refl
  not_again u x far linked (IgnoresMarker v e k) s can l = refl
  not_again u x far linked (Begins k whole) s can l = (let r = can.0 in grind (arith, nat_tests, r, l))
  not_again u x far linked (Follows v e k whole) s can l = (let r = can.4 in grind (arith, nat_tests, r, l))
  not_again u x far linked (Finishes k) s can l = refl

  pub last_grows : (u : ℕ) (x : Recorder M) (far : ℕ → End M) (linked : ℕ → Bool) (d : Act M) → MayAct u x far linked d → x.last ≤ (recorder_after x d).last
  last_grows u x far linked (Moves v act) can = omega arith
  last_grows u x far linked (EndsChannel v e k) can = omega arith
  last_grows u x far linked (IgnoresMarker v e k) can = omega arith
  last_grows u x far linked (Begins k whole) can = (let r = can.0 in omega (arith, r))
  last_grows u x far linked (Follows v e k whole) can = (let r = can.4 in omega (arith, r))
  last_grows u x far linked (Finishes k) can = omega arith

  copy_stays : (x : Recorder M) (d : Act M) (s : ℕ) → records d s ≡ false → (recorder_after x d).copy s ≡ x.copy s
  copy_stays x d s h = grind arith

module _ {M P W : Type 0} where
  pub record Stands (s : ℕ) (a : Option (ℕ → End M)) (k : P → W) (o : P → Bool) (n : Router M P W) : Type 0 where
    pub below : s ≤ n.recorder.last
    pub copy : n.recorder.copy s ≡ a
    pub kept : n.kept_at s ≡ k
    pub originated : n.originated_at s ≡ o

  stands_event : (g : Network M P W) (w : Routers M P W) (u s : ℕ) (a : Option (ℕ → End M)) (k : P → W) (o : P → Bool) (e : Event M P W) → MayHappen g w u e → Stands s a k o (w u) → Stands s a k o (router_after g u (w u) e)
  stands_event g w u s a k o (Acts d) may h =
      let x = (w u).recorder in
      let far : ℕ → End M = λ v. (w v).recorder.ends u in
      let never = not_again u x far (g.linked u) d s may.0 h.below in
      let up = last_grows u x far (g.linked u) d may.0 in
      let b = h.below in
      record { below = omega (arith, up, b); copy = copy_stays x d s never ∙ h.copy; kept = rw never h.kept; originated = rw never h.originated }
  stands_event g w u s a k o (Advertise v p m) may h = record { below = h.below; copy = h.copy; kept = h.kept; originated = h.originated }
  stands_event g w u s a k o (Decide p) may h = record { below = h.below; copy = h.copy; kept = h.kept; originated = h.originated }
  stands_event g w u s a k o (Command f q) may h = record { below = h.below; copy = h.copy; kept = h.kept; originated = h.originated }

  stands_step : (g : Network M P W) (w : Routers M P W) (t : NetworkStep M P W) (u s : ℕ) (a : Option (ℕ → End M)) (k : P → W) (o : P → Bool) (b : Bool) → (u == t.router) ≡ b → MayHappen g w t.router t.event
      → Stands s a k o (w u) → Stands s a k o (cond b (router_after g u (w u) t.event) (w u))
  stands_step g w t u s a k o true is may h = let same : t.router ≡ u = grind (arith, nat_tests, is) in stands_event g w u s a k o t.event (subst (λ i. MayHappen g w i t.event) same may) h
  stands_step g w t u s a k o false is may h = h

  pub stands_run : (g : Network M P W) (ts : List (NetworkStep M P W)) (w : Routers M P W) (u s : ℕ) (a : Option (ℕ → End M)) (k : P → W) (o : P → Bool) → IsNetworkRun g w ts → Stands s a k o (w u) → Stands s a k o (routers_after g w ts u)
  stands_run g [] w u s a k o r h = h
  stands_run g (t ∷ ts) w u s a k o r h = stands_run g ts (advanced g w t) u s a k o r.1 (stands_step g w t u s a k o (u == t.router) refl r.0 h)

  pub after_append : (g : Network M P W) (xs ys : List (NetworkStep M P W)) (w : Routers M P W) → routers_after g w (xs ++ ys) ≡ routers_after g (routers_after g w xs) ys
  after_append g [] ys w = refl
  after_append g (x ∷ xs) ys w = after_append g xs ys (advanced g w x)

  pub goes_rest : (g : Network M P W) (xs ys : List (NetworkStep M P W)) (w : Routers M P W) → IsNetworkRun g w (xs ++ ys) → IsNetworkRun g (routers_after g w xs) ys
  goes_rest g [] ys w r = r
  goes_rest g (x ∷ xs) ys w r = goes_rest g xs ys (advanced g w x) r.1

  here_act : (g : Network M P W) (u s : ℕ) (n : Router M P W) (d : Act M) → records d s ≡ true → Stands s (Some (recorder_after n.recorder d).ends) n.kept n.originated (router_after g u n (Acts d))
  here_act g u s n (Moves v act) is = absurd (cc is)
  here_act g u s n (EndsChannel v e k) is = absurd (cc is)
  here_act g u s n (IgnoresMarker v e k) is = absurd (cc is)
  here_act g u s n (Finishes k) is = absurd (cc is)
  here_act g u s n (Begins k whole) is = let l : s ≤ k = grind (arith, nat_tests, is) in let q : s ≡ k = grind (arith, nat_tests, is) in record { below = l; copy = rw is (ap (λ i. Some (recorder_after n.recorder (Begins i whole)).ends) refl); kept = rw is refl; originated = rw is refl }
  here_act g u s n (Follows v e k whole) is = let l : s ≤ k = grind (arith, nat_tests, is) in record { below = l; copy = rw is refl; kept = rw is refl; originated = rw is refl }

  pub here_step : (g : Network M P W) (u s : ℕ) (n : Router M P W) (d : Act M) (b : Bool) → b ≡ true → records d s ≡ true → Stands s (Some (recorder_after n.recorder d).ends) n.kept n.originated (cond b (router_after g u n (Acts d)) n)
  here_step g u s n d true is now = here_act g u s n d now
  here_step g u s n d false is now = absurd (cc is)

pub records_its_state : {M P W : Type 0} → RecordsItsState M P W
records_its_state g before later u s d r now =
    let w = routers_after g (first_routers g) before in
    let rest = goes_rest g before (step_of u d ∷ later) (first_routers g) r in
    let hit : (u == u) ≡ true = grind (arith, nat_tests) in
    let z = stands_run g later (advanced g w (step_of u d)) u s (Some (recorder_after (w u).recorder d).ends) (w u).kept (w u).originated rest.1 (here_step g u s (w u) d (u == u) hit now) in
    let same = after_append g before (step_of u d ∷ later) (first_routers g) in
    (ap (λ k. (k u).recorder.copy s) same ∙ z.copy, ap (λ k. (k u).kept_at s) same ∙ z.kept, ap (λ k. (k u).originated_at s) same ∙ z.originated)

module _ {M P W : Type 0} where
  abbrev pub Found : List (NetworkStep M P W) → ℕ → ℕ → Type 0
  Found ts u s = (before later : List (NetworkStep M P W)) × (d : Act M) × (ts ≡ before ++ step_of u d ∷ later) × (records d s ≡ true)

  more : (t : NetworkStep M P W) (ts : List (NetworkStep M P W)) (u s : ℕ) → Found ts u s → Found (t ∷ ts) u s
  more t ts u s f = (t ∷ f.0, f.1, f.2, ap (λ (r : List (NetworkStep M P W)). t ∷ r) f.3, f.4)

  abbrev pub step_at : ℕ → Event M P W → NetworkStep M P W
  step_at u e = record { router = u; event = e }

  step_is : (t : NetworkStep M P W) (u : ℕ) (d : Act M) → t.router ≡ u → t.event ≡ Acts d → t ≡ step_of u d
  step_is t u d p q = ap (λ o. step_at o t.event) p ∙ ap (λ e. step_at u e) q

  none_still : (g : Network M P W) (u s : ℕ) (n : Router M P W) (e : Event M P W) (b : Bool) → (router_after g u n e).recorder.copy s ≡ None → n.recorder.copy s ≡ None → (cond b (router_after g u n e) n).recorder.copy s ≡ None
  none_still g u s n e true p q = p
  none_still g u s n e false p q = q

  by_now : (g : Network M P W) (w : Routers M P W) (t : NetworkStep M P W) (ts : List (NetworkStep M P W)) (u s : ℕ) (d : Act M) (b : Bool) → records d s ≡ b → t.event ≡ Acts d → t.router ≡ u → (w u).recorder.copy s ≡ None
      → ((advanced g w t u).recorder.copy s ≡ None → Found ts u s) → Found (t ∷ ts) u s
  by_now g w t ts u s d true now is at none rest = ([], ts, d, ap (λ (x : NetworkStep M P W). x ∷ ts) (step_is t u d at is), now)
  by_now g w t ts u s d false now is at none rest =
      more t ts u s (rest (none_still g u s (w u) t.event (u == t.router) (ap (λ e. (router_after g u (w u) e).recorder.copy s) is ∙ (copy_stays (w u).recorder d s now ∙ none)) none))

  by_event : (g : Network M P W) (w : Routers M P W) (t : NetworkStep M P W) (ts : List (NetworkStep M P W)) (u s : ℕ) (e : Event M P W) → t.event ≡ e → t.router ≡ u → (w u).recorder.copy s ≡ None
      → ((advanced g w t u).recorder.copy s ≡ None → Found ts u s) → Found (t ∷ ts) u s
  by_event g w t ts u s (Acts d) is at none rest = by_now g w t ts u s d (records d s) refl is at none rest
  by_event g w t ts u s (Advertise v p m) is at none rest = more t ts u s (rest (none_still g u s (w u) t.event (u == t.router) (ap (λ e. (router_after g u (w u) e).recorder.copy s) is ∙ none) none))
  by_event g w t ts u s (Decide p) is at none rest = more t ts u s (rest (none_still g u s (w u) t.event (u == t.router) (ap (λ e. (router_after g u (w u) e).recorder.copy s) is ∙ none) none))
  by_event g w t ts u s (Command f q) is at none rest = more t ts u s (rest (none_still g u s (w u) t.event (u == t.router) (ap (λ e. (router_after g u (w u) e).recorder.copy s) is ∙ none) none))

  by_own : (g : Network M P W) (w : Routers M P W) (t : NetworkStep M P W) (ts : List (NetworkStep M P W)) (u s : ℕ) (b : Bool) → (u == t.router) ≡ b → (w u).recorder.copy s ≡ None
      → ((advanced g w t u).recorder.copy s ≡ None → Found ts u s) → Found (t ∷ ts) u s
  by_own g w t ts u s true is none rest = let same : t.router ≡ u = grind (arith, nat_tests, is) in by_event g w t ts u s t.event refl same none rest
  by_own g w t ts u s false is none rest = more t ts u s (rest (rw is none))

  was_recorded_from : (g : Network M P W) (ts : List (NetworkStep M P W)) (w : Routers M P W) (u s : ℕ) (c : ℕ → End M) → (w u).recorder.copy s ≡ None → (routers_after g w ts u).recorder.copy s ≡ Some c → Found ts u s
  was_recorded_from g [] w u s c none is = absurd (cc (none, is))
  was_recorded_from g (t ∷ ts) w u s c none is = by_own g w t ts u s (u == t.router) refl none (λ next. was_recorded_from g ts (advanced g w t) u s c next is)

pub was_recorded : {M P W : Type 0} → WasRecorded M P W
was_recorded g ts u s c is = was_recorded_from g ts (first_routers g) u s c refl is

module _ {M : Type 0} where
  pub record Lost (s : ℕ) (x : Recorder M) : Type 0 where
    pub below : s ≤ x.last
    pub unfinished : x.unfinished ≢ Some s
    pub none : x.part s ≡ None

  unfinished_stays : (up : Bool) (act : Move M) (n : Option ℕ) (s : ℕ) → n ≢ Some s → unfinished_after up act n ≢ Some s
  unfinished_stays up Dials n s h = h
  unfinished_stays up (Tells m) n s h = h
  unfinished_stays up (Marks k) n s h = h
  unfinished_stays true HangsUp n s h = λ e. absurd (cc e)
  unfinished_stays false HangsUp n s h = h
  unfinished_stays up (Takes x) n s h = h

whole_now : (b : Bool) (k s : ℕ) → s < k → cond b (Some k) None ≢ Some s
whole_now true k s l = λ e. let q : k ≡ s = cc e in omega (arith, q, l)
whole_now false k s l = λ e. absurd (cc e)

module _ {M : Type 0} where
  lost_by_act : (u : ℕ) (x : Recorder M) (far : ℕ → End M) (linked : ℕ → Bool) (d : Act M) (s : ℕ) → MayAct u x far linked d → Lost s x → Lost s (recorder_after x d)
  lost_by_act u x far linked (Moves v act) s can h = record { below = h.below; unfinished = unfinished_stays (is_up (x.ends v)) act x.unfinished s h.unfinished; none = h.none }
  lost_by_act u x far linked (EndsChannel v e k) s can h = record { below = h.below; unfinished = h.unfinished; none = h.none }
  lost_by_act u x far linked (IgnoresMarker v e k) s can h = record { below = h.below; unfinished = h.unfinished; none = h.none }
  lost_by_act u x far linked (Begins k whole) s can h = let r = can.0 in let b = h.below in let l : s < k = omega (arith, r, b) in record { below = omega (arith, l); unfinished = whole_now whole k s l; none = h.none }
  lost_by_act u x far linked (Follows v e k whole) s can h = let r = can.4 in let b = h.below in let l : s < k = omega (arith, r, b) in record { below = omega (arith, l); unfinished = whole_now whole k s l; none = h.none }
  lost_by_act u x far linked (Finishes k) s can h =
      let other : s ≢ k = λ q. h.unfinished (can.0 ∙ ap (λ (i : ℕ). Some i) (sym q)) in
      let apart : (s == k) ≡ false = grind (arith, nat_tests, other) in
      record { below = h.below; unfinished = λ e. absurd (cc e); none = rw apart h.none }

module _ {M P W : Type 0} where
  lost_event : (g : Network M P W) (w : Routers M P W) (u s : ℕ) (e : Event M P W) → MayHappen g w u e → Lost s (w u).recorder → Lost s (router_after g u (w u) e).recorder
  lost_event g w u s (Acts d) may h = lost_by_act u (w u).recorder (λ v. (w v).recorder.ends u) (g.linked u) d s may.0 h
  lost_event g w u s (Advertise v p m) may h = record { below = h.below; unfinished = h.unfinished; none = h.none }
  lost_event g w u s (Decide p) may h = h
  lost_event g w u s (Command f q) may h = h

  lost_step : (g : Network M P W) (w : Routers M P W) (t : NetworkStep M P W) (u s : ℕ) (b : Bool) → (u == t.router) ≡ b → MayHappen g w t.router t.event → Lost s (w u).recorder → Lost s (cond b (router_after g u (w u) t.event) (w u)).recorder
  lost_step g w t u s true is may h = let same : t.router ≡ u = grind (arith, nat_tests, is) in lost_event g w u s t.event (subst (λ i. MayHappen g w i t.event) same may) h
  lost_step g w t u s false is may h = h

  lost_run : (g : Network M P W) (ts : List (NetworkStep M P W)) (w : Routers M P W) (u s : ℕ) → IsNetworkRun g w ts → Lost s (w u).recorder → Lost s (routers_after g w ts u).recorder
  lost_run g [] w u s r h = h
  lost_run g (t ∷ ts) w u s r h = lost_run g ts (advanced g w t) u s r.1 (lost_step g w t u s (u == t.router) refl r.0 h)

pub lost_stays_lost : {M P W : Type 0} → LostStaysLost M P W
lost_stays_lost g ts w u s r below now none = (lost_run g ts w u s r (record { below = below; unfinished = now; none = none })).none
