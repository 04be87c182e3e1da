-- A run of sessions, as a run of link ends.
use Rattle.std.proofs.Common.{◌≡◌, ◌≢◌, ℕ, ◌==◌, Bool, true, false, cond, List, [], ◌∷◌, ◌++◌, refl, ap, sym, ◌∙◌, arith, subst}
use Rattle.std.proofs.Math.Path.{fun_ext}
use Rattle.run_model.specs.Links.{LinkRunsGoOn, opening, End, Move, after, Ends, LinkStep, moved, IsRun, ends_after}
use Rattle.run_model.specs.Sessions.{Fits, Sides, SessionStep, moves_of, state_after, afters, side_after, came, IsSessionRun, sides_after, first_sides, ends_of, link_steps, all_moves, SessionRunsGoOn, SessionsMakeALinkRun, SessionsFit, UpIsEstablished}
use Rattle.run_model.proofs.LinkFacts.{AllEndFacts, end_facts_run}
use Rattle.run_model.proofs.IncarnationRuns.{first_facts}
use Rattle.run_model.proofs.SessionFacts.{MayAll, event_fits, established_up, up_established}
use Rattle.std.proofs.lemmas.Bool.Decides.{nat_tests}

module _ {M : Type 0} where
  abbrev pub step_of : ℕ → ℕ → Move M → LinkStep M
  step_of u v m = record { router = u; peer = v; move = m }

  -- the end that a step of u towards v moves, and the peer's, which stays
  own_moved : (w : Ends M) (u v : ℕ) (m : Move M) → moved w (step_of u v m) u v ≡ after (w u v) m
  own_moved w u v m =
      let hu : (u == u) ≡ true = grind (arith, nat_tests) in
      let hv : (v == v) ≡ true = grind (arith, nat_tests) in rw (hu, hv) refl

  peer_stays : (w : Ends M) (u v : ℕ) (m : Move M) → u ≢ v → moved w (step_of u v m) v u ≡ w v u
  peer_stays w u v m apart =
      let back : v ≢ u = λ q. apart (sym q) in
      let miss : (v == u) ≡ false = grind (arith, nat_tests, back) in rw miss refl

  pub run_moves : (ms : List (Move M)) (w : Ends M) (u v : ℕ) → u ≢ v → MayAll (w u v) (w v u) ms → IsRun w (link_steps u v ms)
  run_moves [] w u v apart may = tt
  run_moves (m ∷ ms) w u v apart may = (
    apart,
    may.0,
    run_moves ms (moved w (step_of u v m)) u v apart
        (subst (λ b. MayAll (moved w (step_of u v m) u v) b ms) (sym (peer_stays w u v m apart)) (subst (λ a. MayAll a (w v u) ms) (sym (own_moved w u v m)) may.1)),
  )

  -- which ends they leave
  at_one : (b c : Bool) (a : End M) (m : Move M) (ms : List (Move M))
      → cond b (cond c (afters (cond b (cond c (after a m) a) a) ms) (cond b (cond c (after a m) a) a)) (cond b (cond c (after a m) a) a) ≡ cond b (cond c (afters (after a m) ms) a) a
  at_one true true a m ms = refl
  at_one true false a m ms = refl
  at_one false c a m ms = refl

  at_none : (b c : Bool) (a : End M) → a ≡ cond b (cond c a a) a
  at_none true true a = refl
  at_none true false a = refl
  at_none false c a = refl

  pub ends_moves : (ms : List (Move M)) (w : Ends M) (u v x y : ℕ) → ends_after w (link_steps u v ms) x y ≡ cond (x == u) (cond (y == v) (afters (w x y) ms) (w x y)) (w x y)
  ends_moves [] w u v x y = at_none (x == u) (y == v) (w x y)
  ends_moves (m ∷ ms) w u v x y = ends_moves ms (moved w (step_of u v m)) u v x y ∙ at_one (x == u) (y == v) (w x y) m ms

  at_side : (w : Sides M) (t : SessionStep M) (x y : ℕ) (b c : Bool) → (x == t.router) ≡ b → (y == t.peer) ≡ c
      → cond b (cond c (afters (w x y).end (moves_of (w t.router t.peer).end t.event)) (w x y).end) (w x y).end ≡ (cond b (cond c (side_after (w x y) t.event) (w x y)) (w x y)).end
  at_side w t x y true true p q =
      let to_x : t.router ≡ x = grind (arith, nat_tests, p) in
      let to_y : t.peer ≡ y = grind (arith, nat_tests, q) in
      ap (λ i. afters (w x y).end (moves_of (w i t.peer).end t.event)) to_x ∙ ap (λ i. afters (w x y).end (moves_of (w x i).end t.event)) to_y
  at_side w t x y true false p q = refl
  at_side w t x y false c p q = refl

  -- one event of a session is its moves
  event_moves : (w : Sides M) (t : SessionStep M) → ends_after (ends_of w) (link_steps t.router t.peer (moves_of (w t.router t.peer).end t.event)) ≡ ends_of (came w t)
  event_moves w t =
      fun_ext (λ x. fun_ext (λ y. (ends_moves (moves_of (w t.router t.peer).end t.event) (ends_of w) t.router t.peer x y ∙ at_side w t x y (x == t.router) (y == t.peer) refl refl)))

  pub ends_append : (xs ys : List (LinkStep M)) (w : Ends M) → ends_after w (xs ++ ys) ≡ ends_after (ends_after w xs) ys
  ends_append [] ys w = refl
  ends_append (x ∷ xs) ys w = ends_append xs ys (moved w x)

  pub run_append : (xs ys : List (LinkStep M)) (w : Ends M) → IsRun w xs → IsRun (ends_after w xs) ys → IsRun w (xs ++ ys)
  run_append [] ys w r q = q
  run_append (x ∷ xs) ys w r q = (r.0, r.1, run_append xs ys (moved w x) r.2 q)

  pub link_runs_go_on : LinkRunsGoOn M
  link_runs_go_on moves more r q = (run_append moves more opening r q, ends_append moves more opening)

  came_append : (xs ys : List (SessionStep M)) (w : Sides M) → IsSessionRun w xs → IsSessionRun (sides_after w xs) ys → IsSessionRun w (xs ++ ys) × (sides_after w (xs ++ ys) ≡ sides_after (sides_after w xs) ys)
  came_append [] ys w r q = (q, refl)
  came_append (t ∷ xs) ys w r q = (let rest = came_append xs ys (came w t) r.2 q in ((r.0, r.1, rest.0), rest.1))

  pub session_runs_go_on : SessionRunsGoOn M
  session_runs_go_on ts more r q = came_append ts more first_sides r q

  -- what holds of every state of a run of sessions
  abbrev pub AllFit : Sides M → Type 0
  AllFit w = (u v : ℕ) → u ≢ v → Fits (w u v).state (w u v).end

  fits_case : (w : Sides M) (t : SessionStep M) (u v : ℕ) (b c : Bool) → (u == t.router) ≡ b → (v == t.peer) ≡ c → u ≢ v → AllFit w
      → Fits (state_after (w t.router t.peer) t.event) (afters (w t.router t.peer).end (moves_of (w t.router t.peer).end t.event))
      → Fits (cond b (cond c (side_after (w u v) t.event) (w u v)) (w u v)).state (cond b (cond c (side_after (w u v) t.event) (w u v)) (w u v)).end
  fits_case w t u v true true p q apart fit new =
      let to_u : t.router ≡ u = grind (arith, nat_tests, p) in
      let to_v : t.peer ≡ v = grind (arith, nat_tests, q) in
      subst (λ i. Fits (state_after (w u i) t.event) (afters (w u i).end (moves_of (w u i).end t.event))) to_v
      (subst (λ i. Fits (state_after (w i t.peer) t.event) (afters (w i t.peer).end (moves_of (w i t.peer).end t.event))) to_u new)
  fits_case w t u v true false p q apart fit new = fit u v apart
  fits_case w t u v false c p q apart fit new = fit u v apart

  -- a run of sessions from a state in which this holds
  pub record Followed (w : Sides M) (ts : List (SessionStep M)) : Type 0 where
    pub run : IsRun (ends_of w) (all_moves w ts)
    pub ends : ends_after (ends_of w) (all_moves w ts) ≡ ends_of (sides_after w ts)
    pub fit : AllFit (sides_after w ts)

  pub follow : (ts : List (SessionStep M)) (w : Sides M) → AllEndFacts (ends_of w) → AllFit w → IsSessionRun w ts → Followed w ts
  follow [] w facts fit r = record { run = tt; ends = refl; fit = fit }
  follow (t ∷ ts) w facts fit r =
      let u : ℕ = t.router in
      let v : ℕ = t.peer in
      let moves : List (Move M) = moves_of (w u v).end t.event in
      let leads = event_fits (w u v) (w v u).end t.event (fit u v r.0) (facts u v r.0) (facts v u (λ q. r.0 (sym q))) r.1 in
      let first : IsRun (ends_of w) (link_steps u v moves) = run_moves moves (ends_of w) u v r.0 leads.0 in
      let to : ends_after (ends_of w) (link_steps u v moves) ≡ ends_of (came w t) = event_moves w t in
      let facts' : AllEndFacts (ends_of (came w t)) = subst AllEndFacts to (end_facts_run (link_steps u v moves) (ends_of w) facts first) in
      let rest = follow ts (came w t) facts' (λ x y apart. fits_case w t x y (x == t.router) (y == t.peer) refl refl apart fit leads.1) r.2 in
      record {
        run = run_append (link_steps u v moves) (all_moves (came w t) ts) (ends_of w) first (subst (λ i. IsRun i (all_moves (came w t) ts)) (sym to) rest.run);
        ends = ends_append (link_steps u v moves) (all_moves (came w t) ts) (ends_of w) ∙ (ap (λ i. ends_after i (all_moves (came w t) ts)) to ∙ rest.ends);
        fit = rest.fit;
      }

  followed : (ts : List (SessionStep M)) → IsSessionRun first_sides ts → Followed first_sides ts
  followed ts r = follow ts first_sides first_facts (λ u v apart. record { phase = refl; has_said = tt; has_used = tt }) r

  pub sessions_make_a_link_run : SessionsMakeALinkRun M
  sessions_make_a_link_run ts r = (let f = followed ts r in (f.run, λ u v. ap (λ (w : Ends M). w u v) f.ends))

  pub sessions_fit : SessionsFit M
  sessions_fit ts r u v apart = (followed ts r).fit u v apart

  pub up_is_established : UpIsEstablished M
  up_is_established ts r u v apart =
      let f = (followed ts r).fit u v apart in (
        λ is. established_up (sides_after first_sides ts u v).state (sides_after first_sides ts u v).end f is,
        λ up. up_established (sides_after first_sides ts u v).state (sides_after first_sides ts u v).end f up,
      )
