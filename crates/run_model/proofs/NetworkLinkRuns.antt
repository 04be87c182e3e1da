-- A run of the network, on one link.
use Rattle.std.proofs.Common.{◌≡◌, ◌≢◌, ℕ, ◌≤◌, ◌==◌, Bool, true, false, cond, List, [], ◌∷◌, ◌++◌, refl, ap, sym, ◌∙◌, arith, append_assoc, subst}
use mathlib.Core.List.{IsPrefix}
use Rattle.run_model.specs.Links.{End, Mark, Joined, Move, Tells, Marks, HangsUp, Takes, after, taking, May, IsNext, Ends, LinkStep, IsRun, opening, ends_after, said, is_up, incarnation, close_of}
use Rattle.run_model.specs.Sessions.{afters, link_steps}
use Rattle.run_model.specs.Recordings.{Recorder, Act, Moves, EndsChannel, IgnoresMarker, Begins, Follows, Finishes, marked, recorder_after, MayAct}
use Rattle.run_model.specs.Routes.{NetworkRunsGoOn, Network, Routers, Event, Acts, Advertise, Decide, Command, NetworkStep, updates, MayHappen, router_after, advanced, routers_after, first_routers, IsNetworkRun, reached}
use Rattle.run_model.specs.NetworkLinks.{marker_moves, act_moves, event_moves, step_moves, moves_between, reached_end, NetworkRunsAreLinkRuns, NetworkActedBeginsSent, NetworkNoneAfterClose, NetworkJoinedHeardItsOwn}
use Rattle.run_model.proofs.MarkerFacts.{up_is}
use Rattle.run_model.proofs.AfterClose.{none_after_close}
use Rattle.run_model.proofs.IncarnationRuns.{acted_begins_sent, joined_heard}
use Rattle.run_model.proofs.SessionFacts.{MayAll}
use Rattle.run_model.proofs.SessionRuns.{run_moves, ends_moves, run_append, ends_append}
use Rattle.std.proofs.lemmas.Bool.Decides.{nat_tests}

module _ {M : Type 0} where
  -- moves that are allowed, and the end that they leave
  abbrev pub Leaves : End M → End M → List (Move M) → End M → Type 0
  Leaves a b moves a' = MayAll a b moves × (afters a moves ≡ a')

  one_move : (ends far : ℕ → End M) (y v : ℕ) (m : Move M) (b : Bool) → (v == y) ≡ b → May (ends y) (far y) m → Leaves (ends v) (far v) (cond b (m ∷ []) []) (cond b (after (ends y) m) (ends v))
  one_move ends far y v m true is may =
      let same : y ≡ v = grind (arith, nat_tests, is) in
      ((subst (λ i. May (ends i) (far i) m) same may, tt), ap (λ i. after (ends i) m) (sym same))
  one_move ends far y v m false is may = (tt, refl)

  marks_move : (a b : End M) (s : ℕ) (up : Bool) → is_up a ≡ up → Leaves a b (cond up (Marks s ∷ []) []) (cond up (after a (Marks s)) a)
  marks_move a b s true is = ((is, tt), refl)
  marks_move a b s false is = (tt, refl)

  follow_moves : (x : Recorder M) (far : ℕ → End M) (y v e s : ℕ) (b : Bool) → (v == y) ≡ b → IsNext (x.ends y) (far y) (Mark e s)
      → Leaves (x.ends v) (far v) (cond b (Takes (Mark e s) ∷ marker_moves (x.ends v) s) (marker_moves (x.ends v) s)) (marked s (cond b (taking (x.ends y) (Mark e s)) (x.ends v)))
  follow_moves x far y v e s true is next =
      let same : y ≡ v = grind (arith, nat_tests, is) in
      let here : IsNext (x.ends v) (far v) (Mark e s) = subst (λ i. IsNext (x.ends i) (far i) (Mark e s)) same next in
      let then = marks_move (taking (x.ends v) (Mark e s)) (far v) s (is_up (x.ends v)) refl in
      (((here, tt), then.0), then.1 ∙ ap (λ i. marked s (taking (x.ends i) (Mark e s))) (sym same))
  follow_moves x far y v e s false is next = marks_move (x.ends v) (far v) s (is_up (x.ends v)) refl

  -- an act, on the end towards v
  act_leaves : (u : ℕ) (x : Recorder M) (far : ℕ → End M) (linked : ℕ → Bool) (act : Act M) (v : ℕ) → MayAct u x far linked act → Leaves (x.ends v) (far v) (act_moves (x.ends v) v act) ((recorder_after x act).ends v)
  act_leaves u x far linked (Moves y m) v can = one_move x.ends far y v m (v == y) refl can.2
  act_leaves u x far linked (EndsChannel y e s) v can = one_move x.ends far y v (Takes (Mark e s)) (v == y) refl (can.1, tt)
  act_leaves u x far linked (IgnoresMarker y e s) v can = one_move x.ends far y v (Takes (Mark e s)) (v == y) refl (can.1, tt)
  act_leaves u x far linked (Begins s whole) v can = marks_move (x.ends v) (far v) s (is_up (x.ends v)) refl
  act_leaves u x far linked (Follows y e s whole) v can = follow_moves x far y v e s (v == y) refl can.1
  act_leaves u x far linked (Finishes s) v can = (tt, refl)

module _ {M P W : Type 0} (g : Network M P W) where
  event_leaves : (w : Routers M P W) (u v : ℕ) (e : Event M P W) → MayHappen g w u e
      → Leaves ((w u).recorder.ends v) ((w v).recorder.ends u) (event_moves ((w u).recorder.ends v) v e) ((router_after g u (w u) e).recorder.ends v)
  event_leaves w u v (Acts act) may = act_leaves u (w u).recorder (λ y. (w y).recorder.ends u) (g.linked u) act v may.0
  event_leaves w u v (Advertise y p m) may = one_move (w u).recorder.ends (λ z. (w z).recorder.ends u) y v (Tells m) (v == y) refl (up_is ((w u).recorder.ends y) may.2).joined
  event_leaves w u v (Decide p) may = (tt, refl)
  event_leaves w u v (Command o k) may = (tt, refl)

  -- the ends of a world of links are those of the routers
  pub record Agrees (k : Ends M) (w : Routers M P W) (u v : ℕ) : Type 0 where
    pub own : k u v ≡ (w u).recorder.ends v
    pub peer : k v u ≡ (w v).recorder.ends u

  own_cond : (x y : ℕ) (a b : End M) → cond (x == x) (cond (y == y) a b) b ≡ a
  own_cond x y a b =
      let hx : (x == x) ≡ true = grind (arith, nat_tests) in
      let hy : (y == y) ≡ true = grind (arith, nat_tests) in rw (hx, hy) refl

  peer_cond : (x y z : ℕ) (a b : End M) → x ≢ y → cond (x == y) (cond (y == z) a b) b ≡ b
  peer_cond x y z a b apart = let miss : (x == y) ≡ false = grind (arith, nat_tests, apart) in rw miss refl

  -- the moves of one router
  router_step : (k : Ends M) (w : Routers M P W) (u v : ℕ) (e : Event M P W) → u ≢ v → Agrees k w u v → MayHappen g w u e
      → IsRun k (link_steps u v (event_moves ((w u).recorder.ends v) v e))
      × (ends_after k (link_steps u v (event_moves ((w u).recorder.ends v) v e)) u v ≡ (router_after g u (w u) e).recorder.ends v)
      × (ends_after k (link_steps u v (event_moves ((w u).recorder.ends v) v e)) v u ≡ (w v).recorder.ends u)
  router_step k w u v e apart agrees may =
      let moves : List (Move M) = event_moves ((w u).recorder.ends v) v e in
      let leaves = event_leaves w u v e may in
      let all : MayAll (k u v) (k v u) moves = subst (λ a. MayAll a (k v u) moves) (sym agrees.own) (subst (λ b. MayAll ((w u).recorder.ends v) b moves) (sym agrees.peer) leaves.0) in (
        run_moves moves k u v apart all,
        ends_moves moves k u v u v ∙ (own_cond u v (afters (k u v) moves) (k u v) ∙ (ap (λ a. afters a moves) agrees.own ∙ leaves.1)),
        ends_moves moves k u v v u ∙ (peer_cond v u v (afters (k v u) moves) (k v u) (λ q. apart (sym q)) ∙ agrees.peer),
      )

  may_at : (w : Routers M P W) (t : NetworkStep M P W) (u : ℕ) → (u == t.router) ≡ true → MayHappen g w t.router t.event → MayHappen g w u t.event
  may_at w t u is may = let same : t.router ≡ u = grind (arith, nat_tests, is) in subst (λ i. MayHappen g w i t.event) same may

  -- one step of the network
  step_follows : (k : Ends M) (w : Routers M P W) (u v : ℕ) (t : NetworkStep M P W) (b c : Bool) → (u == t.router) ≡ b → (v == t.router) ≡ c → u ≢ v → Agrees k w u v → MayHappen g w t.router t.event
      → IsRun k (cond b (link_steps u v (event_moves ((w u).recorder.ends v) v t.event)) (cond c (link_steps v u (event_moves ((w v).recorder.ends u) u t.event)) []))
      × (ends_after k (cond b (link_steps u v (event_moves ((w u).recorder.ends v) v t.event)) (cond c (link_steps v u (event_moves ((w v).recorder.ends u) u t.event)) [])) u v ≡ (cond b (router_after g u (w u) t.event) (w u)).recorder.ends v)
      × (ends_after k (cond b (link_steps u v (event_moves ((w u).recorder.ends v) v t.event)) (cond c (link_steps v u (event_moves ((w v).recorder.ends u) u t.event)) [])) v u ≡ (cond c (router_after g v (w v) t.event) (w v)).recorder.ends u)
  step_follows k w u v t true true is there apart agrees may = absurd (apart (grind (arith, nat_tests, is, there)))
  step_follows k w u v t true false is there apart agrees may = router_step k w u v t.event apart agrees (may_at w t u is may)
  step_follows k w u v t false true is there apart agrees may =
      let r = router_step k w v u t.event (λ q. apart (sym q)) (record { own = agrees.peer; peer = agrees.own }) (may_at w t v there may) in (r.0, r.2, r.1)
  step_follows k w u v t false false is there apart agrees may = (tt, agrees.own, agrees.peer)

  pub follow_run : (ts : List (NetworkStep M P W)) (k : Ends M) (w : Routers M P W) (u v : ℕ) → u ≢ v → Agrees k w u v → IsNetworkRun g w ts
      → IsRun k (moves_between g w u v ts) × Agrees (ends_after k (moves_between g w u v ts)) (routers_after g w ts) u v
  follow_run [] k w u v apart agrees r = (tt, agrees)
  follow_run (t ∷ ts) k w u v apart agrees r =
      let moves : List (LinkStep M) = step_moves g w u v t in
      let s = step_follows k w u v t (u == t.router) (v == t.router) refl refl apart agrees r.0 in
      let rest = follow_run ts (ends_after k moves) (advanced g w t) u v apart (record { own = s.1; peer = s.2 }) r.1 in
      let joined = ends_append moves (moves_between g (advanced g w t) u v ts) k in (
        run_append moves (moves_between g (advanced g w t) u v ts) k s.0 rest.0,
        record { own = ap (λ (i : Ends M). i u v) joined ∙ rest.1.own; peer = ap (λ (i : Ends M). i v u) joined ∙ rest.1.peer },
      )

  between_append : (xs ys : List (NetworkStep M P W)) (w : Routers M P W) (u v : ℕ) → moves_between g w u v (xs ++ ys) ≡ moves_between g w u v xs ++ moves_between g (routers_after g w xs) u v ys
  between_append [] ys w u v = refl
  between_append (t ∷ xs) ys w u v =
      ap (λ l. step_moves g w u v t ++ l) (between_append xs ys (advanced g w t) u v) ∙ sym (append_assoc (step_moves g w u v t) (moves_between g (advanced g w t) u v xs) (moves_between g (routers_after g w (t ∷ xs)) u v ys))

module _ {M P W : Type 0} (g : Network M P W) where
  network_append : (xs ys : List (NetworkStep M P W)) (w : Routers M P W) → IsNetworkRun g w xs → IsNetworkRun g (routers_after g w xs) ys → IsNetworkRun g w (xs ++ ys) × (routers_after g w (xs ++ ys) ≡ routers_after g (routers_after g w xs) ys)
  network_append [] ys w r q = (q, refl)
  network_append (t ∷ xs) ys w r q = (let rest = network_append xs ys (advanced g w t) r.1 q in ((r.0, rest.0), rest.1))

module _ {M P W : Type 0} where
  pub network_runs_go_on : NetworkRunsGoOn M P W
  network_runs_go_on g ts more r q = network_append g ts more (first_routers g) r q

module _ {M P W : Type 0} where
  pub network_runs_are_link_runs : NetworkRunsAreLinkRuns M P W
  network_runs_are_link_runs g ts r u v apart =
      let f = follow_run g ts opening (first_routers g) u v apart (record { own = refl; peer = refl }) r in (f.0, f.1.own, f.1.peer)

  pub network_acted_begins_sent : NetworkActedBeginsSent M P W
  network_acted_begins_sent g ts r u v e apart =
      let f = network_runs_are_link_runs g ts r u v apart in
      let moves : List (LinkStep M) = moves_between g (first_routers g) u v ts in
      let law = acted_begins_sent g.is_update moves f.0 u v e apart in
      subst (λ (b : End M). IsPrefix (updates g (said e (reached_end g ts u v).used)) (updates g (said e b.appended))) f.2
      (subst (λ (a : End M). IsPrefix (updates g (said e a.used)) (updates g (said e (ends_after opening moves v u).appended))) f.1 law)

  pub network_joined_heard : NetworkJoinedHeardItsOwn M P W
  network_joined_heard g ts r u v apart joined =
      let f = network_runs_are_link_runs g ts r u v apart in
      let moves : List (LinkStep M) = moves_between g (first_routers g) u v ts in
      subst (λ (a : End M). a.phase ≡ Joined → incarnation (record { appended = a.taken; taken = []; phase = a.phase; used = [] }) ≡ incarnation a) f.1 (λ j. joined_heard moves f.0 u v apart j) joined

  front_run : (g : Network M P W) (xs ys : List (NetworkStep M P W)) (w : Routers M P W) → IsNetworkRun g w (xs ++ ys) → IsNetworkRun g w xs
  front_run g [] ys w r = tt
  front_run g (t ∷ xs) ys w r = (r.0, front_run g xs ys (advanced g w t) r.1)

  pub network_none_after_close : NetworkNoneAfterClose M P W
  network_none_after_close g before later u v apart r e low =
      let close : NetworkStep M P W = record { router = u; event = Acts (Moves v HangsUp) } in
      let w : Routers M P W = reached g before in
      let xs : List (LinkStep M) = moves_between g (first_routers g) u v before in
      let ys : List (LinkStep M) = moves_between g (advanced g w close) u v later in
      let hu : (u == u) ≡ true = grind (arith, nat_tests) in
      let hv : (v == v) ≡ true = grind (arith, nat_tests) in
      let one : step_moves g w u v close ≡ close_of u v ∷ [] = rw (hu, hv) refl in
      let all : moves_between g (first_routers g) u v (before ++ close ∷ later) ≡ xs ++ close_of u v ∷ ys = between_append g before (close ∷ later) (first_routers g) u v ∙ ap (λ l. xs ++ (l ++ ys)) one in
      let whole = network_runs_are_link_runs g (before ++ close ∷ later) r u v apart in
      let front = network_runs_are_link_runs g before (front_run g before (close ∷ later) (first_routers g) r) u v apart in
      let low' : e ≤ incarnation (ends_after opening xs u v) = subst (λ (a : End M). e ≤ incarnation a) (sym front.1) low in
      let law = none_after_close u v xs ys (subst (IsRun opening) all whole.0) e low' in
      let last : ends_after opening (xs ++ close_of u v ∷ ys) u v ≡ reached_end g (before ++ close ∷ later) u v = ap (λ l. ends_after opening l u v) (sym all) ∙ whole.1 in
      sym (ap (λ (a : End M). said e a.used) last) ∙ (law ∙ ap (λ (a : End M). said e a.used) front.1)
