-- Nothing is acted on in an incarnation that was closed.
use Rattle.std.proofs.Common.{◌≡◌, ◌≢◌, ℕ, ◌<◌, ◌≤◌, ◌==◌, Bool, true, false, List, [], ◌∷◌, ◌++◌, refl, ap, sym, ◌∙◌, subst, arith}
use Rattle.std.specs.Prelude.{if◌then◌else◌}
use mathlib.Core.List.{IsPrefix}
use Rattle.std.proofs.lemmas.Bool.Decides.{nat_tests}
use Rattle.bgp_codec.specs.declared.message.Message.{Message}
use Rattle.bgp_codec.specs.declared.update.Update.{Update}
use Rattle.link_epoch.specs.declared.link_end.Phase.{Phase}
use Rattle.link_epoch.specs.declared.link_end.Phase.TheVariants as phase
use Rattle.session_fsm.specs.declared.state.State.{State}
use Rattle.session_fsm.specs.declared.state.State.TheVariants as state
use Rattle.run_model.specs.Links as links
use Rattle.run_model.specs.Links.{Entry, Says, Mark, Shut, End, Move, Tells, HangsUp, Takes, taking, incarnation, greatest_dial, said}
use Rattle.run_model.specs.Sessions as model
use Rattle.run_model.specs.Sessions.{SessionState, SessionEvent, Starts, Retries, Confirms, Yields, AcceptsOpen, AcceptsKeepalive, Accepts, Speaks, SendsMarker, Closes, Fails, Passes, Fits, MayCome, moves_of, state_after, afters, side_after, first_sides, hanging, telling}
use Rattle.run_model.specs.Octets.{passing}
use Rattle.run_model.specs.Network as runs
use Rattle.run_model.specs.Network.{NetworkEvent, taken_from}
use Rattle.run_model.specs.Facts.{EndFacts, IsPast, MayInTurn}
use Rattle.outbox.specs.declared.item.What.{What}
use Rattle.router_model.specs.Sides.{Side, is_established, is_up}
use Rattle.snap_marker.specs.Recordings.{MadeOffer}
use Rattle.router_model.specs.Settings.{Setting, linked}
use Rattle.router_model.specs.State.{Router}
use Rattle.router_model.specs.Step.{Own, says}
use Rattle.router_model.specs.Laws.{all_passes}
use Rattle.router_runs.specs.Runs.{Logged, LoggedStep, RunState, RunOrder, logged_steps, written_in}
use Rattle.router_model.specs.Settings.{IsSetting}
use Rattle.router_model.specs.Messages.{updates_in}
use Rattle.router_runs.specs.Runs.{side_of, log_of}
use Rattle.router_runs.specs.Promises.{NothingIsActedOnAfterTheClose}
use Rattle.router_runs.specs.Reading.{MayComeAll, sides_after, state_of, phase_of, model_side}
use Rattle.router_runs.specs.Doing.{Stands, Does}
use Rattle.router_runs.specs.Said.{Kept}
use Rattle.router_runs.proofs.Signing.{established}
use Rattle.router_runs.proofs.Events.{step_side}
use Rattle.router_runs.proofs.Running.{all_more, before_of, number_is, taken_said}
use Rattle.router_runs.proofs.Keeping.{all_good, kept_next, kept_to, linked_apart, linked_both}
use Rattle.router_runs.proofs.Lower.{Laws, event_fits, greatest_dial-append, past_move}

module _ (laws : Laws) where
  -- ---- events keep it

  past_on : (ms : List (Move Message)) (e : ℕ) (us : List Message) (a b : End Message) → MayInTurn a b ms → IsPast e us a → IsPast e us (afters a ms)
  past_on [] e us a b may p = p
  past_on (m ∷ ms) e us a b may p = past_on ms e us (links.after a m) b may.1 (past_move laws e us a b m may.0 p)

  past_events : (es : List (SessionEvent Message)) (x : model.Side Message) (b : End Message) (e : ℕ) (us : List Message) → MayComeAll x b es → Fits x.state x.end → EndFacts x.end b → EndFacts b x.end → IsPast e us x.end
      → IsPast e us (sides_after x es).end
  past_events [] x b e us may f g k p = p
  past_events (t ∷ es) x b e us may f g k p =
      let l = event_fits laws x b t f g k may.0 in
      past_events es (side_after x t) b e us may.1 l.fits l.mine l.theirs (past_on (moves_of x.end t) e us x.end b l.may p)

  -- ---- the close

  closed_past : (ns : List Message) (a : End Message) (e : ℕ) → e ≤ greatest_dial a.appended → (us : List Message) × IsPast e us (afters a (telling ns ++ HangsUp ∷ []))
  closed_past [] a e l =
      (said e a.used, record { low = λ q. absurd (q refl); reached = omega (arith, l, greatest_dial-append laws a.appended (Shut (greatest_dial a.appended) ∷ [])); same = refl })
  closed_past (n ∷ ns) a e l = closed_past ns (links.after a (Tells n)) e (omega (arith, l, greatest_dial-append laws a.appended (Says (greatest_dial a.appended) n ∷ [])))

  taken_keeps : (a : End Message) (x : Entry Message) → (taking a x).appended ≡ a.appended
  taken_keeps a x = grind arith

  -- events that lead out of Established close it
  leaving : (es : List (SessionEvent Message)) (x : model.Side Message) (b : End Message) (e : ℕ) → x.state ≡ model.Established → MayComeAll x b es → Fits x.state x.end → EndFacts x.end b → EndFacts b x.end
      → e ≤ greatest_dial x.end.appended → (sides_after x es).state ≢ model.Established → (us : List Message) × IsPast e us (sides_after x es).end
  leaving [] x b e is may f g k l out = absurd (out is)
  leaving (t ∷ es) x b e is may f g k l out =
      let leads = event_fits laws x b t f g k may.0 in
      by t may.0
      (λ same above. leaving es (side_after x t) b e same may.1 leads.fits leads.mine leads.theirs above out)
      (λ p. (p.0, past_events es (side_after x t) b e p.0 may.1 leads.fits leads.mine leads.theirs p.1))
    where
      by : (t : SessionEvent Message) → MayCome x b t
          → (state_after x t ≡ model.Established → e ≤ greatest_dial (side_after x t).end.appended → (us : List Message) × IsPast e us (sides_after (side_after x t) es).end)
          → ((us : List Message) × IsPast e us (side_after x t).end → (us : List Message) × IsPast e us (sides_after (side_after x t) es).end)
          → (us : List Message) × IsPast e us (sides_after (side_after x t) es).end
      by (Starts o) m on off = absurd (subst model.MayRestart is m)
      by (Retries o) m on off = absurd (cc (m, is))
      by (Confirms n o) m on off = absurd (let q = m.0 in cc (q, is))
      by (Yields n o) m on off = absurd (subst model.WaitsForPeer is m.0)
      by (AcceptsOpen o a) m on off = absurd (let q = m.0 in cc (q, is))
      by (AcceptsKeepalive a) m on off = absurd (let q = m.0 in cc (q, is))
      by (Accepts w) m on off = on is l
      by (Speaks w) m on off = on is (omega (arith, l, greatest_dial-append laws x.end.appended (Says (greatest_dial x.end.appended) w ∷ [])))
      by (SendsMarker n) m on off = on is (omega (arith, l, greatest_dial-append laws x.end.appended (Mark (greatest_dial x.end.appended) n ∷ [])))
      by (Closes ns) m on off =
          let phase : x.end.phase ≡ links.Joined = f.phase ∙ ap model.phase_in is in
          let hangs : hanging {M = Message} x.end.phase ≡ HangsUp ∷ [] = ap hanging phase in
          off (subst (λ ms. (us : List Message) × IsPast e us (afters x.end (telling ns ++ ms))) (sym hangs) (closed_past ns x.end e l))
      by Fails m on off = absurd (cc (m, is))
      by (Passes y) m on off = on is (subst (λ log. e ≤ greatest_dial log) (sym (taken_keeps x.end y)) l)

  -- ---- a side that left an incarnation

  record Left (e : ℕ) (history : List Update) (s : Side) : Type 0 where
    low : s.link.phase ≢ phase.Shut → e < s.link.epoch
    reached : e ≤ s.link.epoch
    same : s.acted e ≡ history

  shut_phase : (p : Phase) → phase_of p ≡ links.Closed → p ≡ phase.Shut
  shut_phase phase.Shut h = refl
  shut_phase phase.Offered h = absurd (cc h)
  shut_phase phase.Joined h = absurd (cc h)

  to_past : (e : ℕ) (history : List Update) (s : Side) (a b : End Message) → Stands s a b → Left e history s → IsPast e (said e a.used) a
  to_past e history s a b x l = record {
    low = λ n. (let k = l.low (λ p. n (x.reads.phase ∙ ap phase_of p)) in let r = x.reads.epoch in omega (arith, k, r));
    reached = (let k = l.reached in let r = x.reads.epoch in omega (arith, k, r));
    same = refl;
  }

  from_past : (e : ℕ) (us : List Message) (s : Side) (a b : End Message) → Stands s a b → IsPast e us a → Left e (updates_in us) s
  from_past e us s a b x p = record {
    low = λ n. (let k = p.low (λ c. n (shut_phase s.link.phase (sym x.reads.phase ∙ c))) in let r = x.reads.epoch in omega (arith, k, r));
    reached = (let k = p.reached in let r = x.reads.epoch in omega (arith, k, r));
    same = x.reads.acted e ∙ ap updates_in p.same;
  }

  left_step : (e : ℕ) (history : List Update) (s t : Side) (new past : List (Entry Message)) (a b : End Message) → Stands s a b → Does s t new past a b → Left e history s → Left e history t
  left_step e history s t new past a b x d l =
      let p = past_events d.events (model_side s a) b e (said e a.used) d.may x.fits x.mine x.theirs (to_past e history s a b x l) in
      subst (λ h. Left e h t) (sym (x.reads.acted e) ∙ l.same) (from_past e (said e a.used) t (sides_after (model_side s a) d.events).end b d.stands p)

  not_established : (st : State) → is_established st ≡ false → state_of st ≢ model.Established
  not_established state.Idle h = λ i. cc i
  not_established state.Connect h = λ i. cc i
  not_established state.Active h = λ i. cc i
  not_established state.OpenSent h = λ i. cc i
  not_established state.OpenConfirm h = λ i. cc i
  not_established state.Established h = absurd (cc h)

  left_now : (s t : Side) (new past : List (Entry Message)) (a b : End Message) → Stands s a b → Does s t new past a b → is_up s ≡ true → is_up t ≡ false → Left s.link.epoch (t.acted s.link.epoch) t
  left_now s t new past a b x d up down =
      let e : ℕ = s.link.epoch in
      let r = x.reads.epoch in
      let p = leaving d.events (model_side s a) b e (established laws s.session.state up) d.may x.fits x.mine x.theirs (omega (arith, r)) (λ i. not_established t.session.state down (sym d.state ∙ i)) in
      let l = from_past e p.0 t (sides_after (model_side s a) d.events).end b d.stands p.1 in
      record { low = l.low; reached = l.reached; same = refl }

  -- ---- through a run

  record Moved (s t : Side) (a b : End Message) : Type 0 where
    new : List (Entry Message)
    past : List (Entry Message)
    stands : Stands s a b
    does : Does s t new past a b

  module _ (g : Setting) (set : IsSetting g) where
    module _ (old : RunState) (k : Kept g old) (d : NetworkEvent Own What MadeOffer) (own : Logged) (step : LoggedStep g d.router (old.routers d.router) d.event own)
        (begins : (u v : ℕ) → IsPrefix ((runs.after (logged_steps g) old d own).taken u v) ((runs.after (logged_steps g) old d own).put u v)) where
      -- the side that steps does so by events of its session
      moved : (v : ℕ) → (link : linked g.net d.router v ≡ true)
          → Moved (side_of old d.router v) (own.router.sides v) (model.sides_after first_sides (k.reached.links d.router v link).steps d.router v).end (model.sides_after first_sides (k.reached.links d.router v link).steps v d.router).end
      moved v link =
          let u : ℕ = d.router in
          let j = k.reached.links u v link in
          let a : End Message = (model.sides_after first_sides j.steps u v).end in
          let b : End Message = (model.sides_after first_sides j.steps v u).end in
          let back = linked_both laws g set.network u v link in
          let before = before_of laws g u v (side_of old u v) (side_of old v u) (log_of old u v) (log_of old v u) (old.taken v u) (old.taken u v) (linked_apart laws g set.network u v link) j (all_good laws g set old k v u back) in
          let apart = linked_apart laws g set.network u v link in
          let hit : (d.router == d.router) ≡ true = grind (arith, nat_tests) in
          let miss : (d.router == v) ≡ false = grind (arith, nat_tests, apart) in
          let k' = kept_next laws g set old k d own step begins in
          let there : IsPrefix (all_passes (old.taken v u) ++ all_passes (taken_from v d.event)) (passing (written_in g) b.appended) =
          subst (λ log. IsPrefix (all_passes (old.taken v u) ++ all_passes (taken_from v d.event)) (passing (written_in g) log)) j.there.log
          (subst (λ i. IsPrefix i (passing (written_in g) (log_of old v u))) (all_more laws (old.taken v u) (taken_from v d.event))
          (subst (λ c. IsPrefix (all_passes (old.taken v u ++ (if c then taken_from v d.event else []))) (passing (written_in g) (log_of old v u))) hit
          (subst (λ c. IsPrefix (all_passes (old.taken v u ++ (if d.router == d.router then taken_from v d.event else []))) (passing (written_in g) ((if c then own else old.routers v).log u))) miss
          (taken_said laws g (runs.after (logged_steps g) old d own) v u (k'.reached.puts v u) (k'.reached.begins v u))))) in
          let s = step_side laws g set.network u v (old.routers u).router (all_passes (old.taken v u)) a b link before d.event step.step.may step.step.numbers there in
          record { new = says g u (old.routers u).router d.event v; past = s.past; stands = j.here.stands; does = subst (λ (y : Router). Does (side_of old u v) (y.sides v) (says g u (old.routers u).router d.event v) s.past a b) (sym step.step.leaves) s.does }

    -- by whether its router steps
    left_one : (old : RunState) (k : Kept g old) (d : NetworkEvent Own What MadeOffer) (own : Logged) (step : LoggedStep g d.router (old.routers d.router) d.event own)
        → ((x y : ℕ) → IsPrefix ((runs.after (logged_steps g) old d own).taken x y) ((runs.after (logged_steps g) old d own).put x y))
        → (u v e : ℕ) (history : List Update) (c : Bool) → (d.router == u) ≡ c → linked g.net u v ≡ true → Left e history (side_of old u v) → Left e history ((if c then own else old.routers u).router.sides v)
    left_one old k d own step begins u v e history true h link l =
        let to_u : d.router ≡ u = number_is laws d.router u h in
        let link' : linked g.net d.router v ≡ true = ap (λ i. linked g.net i v) to_u ∙ link in
        let m = moved old k d own step begins v link' in
        let j = k.reached.links d.router v link' in
        left_step e history (side_of old d.router v) (own.router.sides v) m.new m.past (model.sides_after first_sides j.steps d.router v).end (model.sides_after first_sides j.steps v d.router).end m.stands m.does
        (subst (λ i. Left e history (side_of old i v)) (sym to_u) l)
    left_one old k d own step begins u v e history false h link l = l

    left_run : (order : RunOrder) (old new : RunState) → Kept g old → runs.Run (logged_steps g) old order new → (u v e : ℕ) (history : List Update) → linked g.net u v ≡ true → Left e history (side_of old u v) → Left e history (side_of new u v)
    left_run [] old new k r u v e history link l = subst (λ (i : RunState). Left e history (side_of i u v)) r l
    left_run (d ∷ ds) old new k r u v e history link l =
        let next : RunState = r.0 in
        let s = r.1 in
        let own : Logged = s.0 in
        let after' : RunState = runs.after (logged_steps g) old d own in
        let begins : (x y : ℕ) → IsPrefix (after'.taken x y) (after'.put x y) = subst (λ (i : RunState). (x y : ℕ) → IsPrefix (i.taken x y) (i.put x y)) s.2 s.3 in
        let k' : Kept g after' = kept_next laws g set old k d own s.1 begins in
        let one : Left e history (side_of after' u v) =
        left_one old k d own s.1 begins u v e history (d.router == u) refl link l in
        left_run ds next new (subst (Kept g) (sym s.2) k') r.2 u v e history link (subst (λ (i : RunState). Left e history (side_of i u v)) (sym s.2) one)

    nothing_after : (later : RunOrder) (d : NetworkEvent Own What MadeOffer) (old last : RunState) (own : Logged) → (k : Kept g old) → (step : LoggedStep g d.router (old.routers d.router) d.event own)
        → ((x y : ℕ) → IsPrefix ((runs.after (logged_steps g) old d own).taken x y) ((runs.after (logged_steps g) old d own).put x y)) → runs.Run (logged_steps g) (runs.after (logged_steps g) old d own) later last
        → (v : ℕ) → linked g.net d.router v ≡ true → is_up (side_of old d.router v) ≡ true → is_up (side_of (runs.after (logged_steps g) old d own) d.router v) ≡ false
        → (side_of last d.router v).acted (side_of old d.router v).link.epoch ≡ (side_of (runs.after (logged_steps g) old d own) d.router v).acted (side_of old d.router v).link.epoch
    nothing_after later d old last own k step begins r v link up down =
        let u : ℕ = d.router in
        let new : RunState = runs.after (logged_steps g) old d own in
        let e : ℕ = (side_of old u v).link.epoch in
        let hit : (d.router == d.router) ≡ true = grind (arith, nat_tests) in
        let is : side_of new u v ≡ own.router.sides v = ap (λ c. (if c then own else old.routers u).router.sides v) hit in
        let m = moved old k d own step begins v link in
        let j = k.reached.links u v link in
        let now : Left e ((own.router.sides v).acted e) (own.router.sides v) =
        left_now (side_of old u v) (own.router.sides v) m.new m.past (model.sides_after first_sides j.steps u v).end (model.sides_after first_sides j.steps v u).end m.stands m.does up (sym (ap is_up is) ∙ down) in
        let at_new : Left e ((side_of new u v).acted e) (side_of new u v) = subst (λ (t : Side). Left e (t.acted e) t) (sym is) now in
        (left_run later new last (kept_next laws g set old k d own step begins) r u v e ((side_of new u v).acted e) link at_new).same

  pub nothing_after_the_close : NothingIsActedOnAfterTheClose
  nothing_after_the_close g set before later d old new last reached s r v up down =
      let k = kept_to laws g set before old reached in
      let own : Logged = s.0 in
      let begins = subst (λ (i : RunState). (x y : ℕ) → IsPrefix (i.taken x y) (i.put x y)) s.2 s.3 in
      subst
      (λ (i : RunState). runs.Run (logged_steps g) i later last → is_up (side_of i d.router v) ≡ false → (side_of last d.router v).acted (side_of old d.router v).link.epoch ≡ (side_of i d.router v).acted (side_of old d.router v).link.epoch) (sym s.2)
      (λ r' down'. nothing_after g set later d old last own k s.1 begins r' v (by_test (linked g.net d.router v) refl k up) up down') r down
    where
      by_test : (c : Bool) → linked g.net d.router v ≡ c → Kept g old → is_up (side_of old d.router v) ≡ true → linked g.net d.router v ≡ true
      by_test true h k up = h
      by_test false h k up = absurd (let low = k.apart d.router v h in cc (low, up))
