-- A reset of a session: a stop, and then a start.
use Rattle.std.proofs.Common.{◌≡◌, ℕ, Bool, true, false, ◌&&◌, not, cond, List, [], ◌∷◌, ◌++◌, refl, ap, sym, ◌∙◌, subst, arith, append_assoc, inl, inr}
use Rattle.std.specs.Prelude.{◌<◌, nat_lt}
use Rattle.std.proofs.lemmas.List.{append-nil}
use Rattle.std.proofs.lemmas.Bool.Decides.{nat_tests}
use Rattle.bgp_codec.specs.declared.message.Message.{Message}
use Rattle.bgp_codec.specs.declared.message.Message.TheVariants.{OpenMsg}
use Rattle.bgp_codec.specs.declared.open.Open.{Open}
use Rattle.bgp_codec.specs.declared.update.Update.{Update}
use Rattle.link_epoch.specs.Ends.{LinkView, is_joinable, next_number, dialled}
use Rattle.link_epoch.specs.declared.link_end.Phase.TheVariants as phase
use Rattle.session_fsm.specs.Table.{SessionView}
use Rattle.session_fsm.specs.declared.state.State.{State}
use Rattle.session_fsm.specs.declared.state.State.TheVariants as state
use Rattle.session_fsm.specs.declared.event.FsmEvent.TheVariants.{ManualStart, ManualStop}
use Rattle.run_model.specs.Links.{Entry, Dial, Says, End}
use Rattle.router_model.specs.Sides.{acted_with, fits, Side, Draft, NoMessage, carried, draft_of, draft_event, draft_reset, is_established, react, react_once, apply}
use Rattle.router_runs.specs.Reading.{phase_in, state_of}
use Rattle.router_runs.specs.Doing.{Stands, Does, Row}
use Rattle.router_runs.proofs.Doing.{no_event, same_up, then_does}
use Rattle.router_runs.proofs.Moving.{answers_is}
use Rattle.router_runs.proofs.Rows.{phase_fits, at, at_own, own_event}
use Rattle.router_runs.proofs.Stepping.{stop_event, decides}
use Rattle.router_runs.proofs.Lower.{Laws}

module _ (laws : Laws) where
  record Restarts (o : Open) (d e : Draft) : Type 0 where
    session : e.session ≡ (react (OpenMsg o) NoMessage (draft_of d.session d.link) ManualStart).session
    link : e.link ≡ (react (OpenMsg o) NoMessage (draft_of d.session d.link) ManualStart).link
    dials : e.link ≡ dialled d.link
    says : e.says ≡ d.says ++ (react (OpenMsg o) NoMessage (draft_of d.session d.link) ManualStart).says
    drops : e.drops ≡ d.drops
    over : (react (OpenMsg o) NoMessage (draft_of d.session d.link) ManualStart).overflows ≡ false
    down : is_established (react (OpenMsg o) NoMessage (draft_of d.session d.link) ManualStart).session.state ≡ false

  from_idle : (c f : Bool) (o : Open) (d : Draft) (session : SessionView) → is_joinable d.link ≡ c → fits (next_number d.link) ≡ f
      → (react (OpenMsg o) NoMessage (record d { session = record session { state = state.Idle } }) ManualStart).overflows ≡ false
      → Restarts o (record d { session = record session { state = state.Idle } }) (react (OpenMsg o) NoMessage (record d { session = record session { state = state.Idle } }) ManualStart)
  unfolding react react_once apply
  from_idle true true o d session aw fit over =
      let low = rw aw at fit in
      record { session = rw (aw, low) refl; link = rw (aw, low) refl; dials = rw (aw, low) refl; says = rw (aw, low) (append_assoc d.says (Dial d.link.heard ∷ []) (Says d.link.heard (OpenMsg o) ∷ [])); drops = rw (aw, low) refl; over = rw (aw, low) refl; down = rw (aw, low) refl }
  from_idle false true o d session aw fit over =
      let low = rw aw at fit in
      record { session = rw (aw, low) refl; link = rw (aw, low) refl; dials = rw (aw, low) refl; says = rw (aw, low) refl; drops = rw (aw, low) refl; over = rw (aw, low) refl; down = rw (aw, low) refl }
  from_idle true false o d session aw fit over = absurd (let low = rw aw at fit in let k = rw (aw, low) at over in cc k)
  from_idle false false o d session aw fit over = absurd (let low = rw aw at fit in let k = rw (aw, low) at over in cc k)

  -- what a stop leaves
  record Stopped (st : State) (s : Side) (d : Draft) : Type 0 where
    idle : record d { session = record d.session { state = state.Idle } } ≡ d
    link : is_joinable d.link ≡ is_joinable s.link
    drops : phase_in st ≡ phase.Joined → d.drops ≡ true
    down : is_established d.session.state ≡ false

  stopped_is : (st : State) (o : Open) (s : Side) → Stopped st s (draft_event (OpenMsg o) (at st s) ManualStop)
  unfolding react react_once apply
  stopped_is state.Idle o s = record { idle = refl; link = refl; drops = λ j. absurd (cc j); down = refl }
  stopped_is state.Connect o s = record { idle = refl; link = refl; drops = λ j. absurd (cc j); down = refl }
  stopped_is state.Active o s = record { idle = refl; link = refl; drops = λ j. absurd (cc j); down = refl }
  stopped_is state.OpenSent o s = record { idle = refl; link = refl; drops = λ j. refl; down = refl }
  stopped_is state.OpenConfirm o s = record { idle = refl; link = refl; drops = λ j. refl; down = refl }
  stopped_is state.Established o s = record { idle = refl; link = refl; drops = λ j. refl; down = refl }

  acted_none : (c : Bool) (e : ℕ) (history : ℕ → List Update) → acted_with c NoMessage e history ≡ history
  acted_none true e history = refl
  acted_none false e history = refl

  joined_by : (c : Bool) → cond c phase.Joined phase.Offered ≡ phase.Joined → c ≡ true
  joined_by true h = refl
  joined_by false h = absurd (cc h)

  not_awaited : (l : LinkView) → l.heard ≡ l.epoch → is_joinable l ≡ true → ⊥
  not_awaited l same h = at (nat_lt l.epoch l.heard) refl h
    where
      at : (c : Bool) → nat_lt l.epoch l.heard ≡ c → (nat_lt l.epoch l.heard && not l.heard_is_shut) ≡ true → ⊥
      at true is h = (let above : l.epoch < l.heard = grind (arith, nat_tests, is) in omega (arith, above, same))
      at false is h = (let k = rw is at h in cc k)

  does_like : (s t r : Side) (new more : List (Entry Message)) (a b : End Message) → Does s t new [] a b → t.session.state ≡ r.session.state → t.link ≡ r.link → t.acted ≡ r.acted → t.sent ≡ r.sent → new ≡ more → Does s r more [] a b
  does_like s t r new more a b d state link acted sent same =
      subst (λ w. Does s r w [] a b) (append-nil new ∙ same) (then_does laws s t r new [] [] [] a b (inr (inl (same_up laws t r (ap state_of state)))) d (λ c appends takes y. no_event laws t r c b y (ap state_of state) link acted sent))

  reset_row : (o : Open) (s : Side) (a b : End Message) → Stands s a b → (s.link.phase ≡ phase.Joined → s.link.heard ≡ s.link.epoch) → Stopped s.session.state s (draft_event (OpenMsg o) s ManualStop) → (draft_reset (OpenMsg o) s).overflows ≡ false
      → Row s NoMessage (draft_reset (OpenMsg o) s) a b
  reset_row o s a b x own stopped over =
      let d : Draft = draft_event (OpenMsg o) s ManualStop in
      let k : Restarts o d (draft_reset (OpenMsg o) s) =
      subst (λ (i : Draft). (react (OpenMsg o) NoMessage i ManualStart).overflows ≡ false → Restarts o i (react (OpenMsg o) NoMessage i ManualStart)) stopped.idle
      (λ over'. from_idle (is_joinable d.link) (fits (next_number d.link)) o d d.session refl refl over') over in
      let mid : Side = carried NoMessage s d in
      let first = stop_event laws o s a b x in
      let next : Draft = draft_event (OpenMsg o) mid ManualStart in
      let awaited : (draft_reset (OpenMsg o) s).link.phase ≡ phase.Joined → is_joinable s.link ≡ true = λ j. sym stopped.link ∙ joined_by (is_joinable d.link) (ap (λ l. l.phase) (sym k.dials) ∙ j) in
      record {
        does = does_like s (carried NoMessage mid next) (carried NoMessage s (draft_reset (OpenMsg o) s)) (d.says ++ next.says) (draft_reset (OpenMsg o) s).says a b
            (then_does laws s mid (carried NoMessage mid next) d.says [] next.says [] a b (inr (inr (stopped.down, k.down))) first.does (λ c appends takes y. (own_event laws ManualStart tt o mid c b y k.over).does))
            (ap (λ i. i.state) (sym k.session)) (sym k.link)
            (acted_none next.acts next.link.epoch mid.acted ∙ (acted_none d.acts d.link.epoch s.acted ∙ sym (acted_none (draft_reset (OpenMsg o) s).acts (draft_reset (OpenMsg o) s).link.epoch s.acted))) refl (sym k.says);
        joined = λ j. inr (
          (λ was. not_awaited s.link (own was) (awaited j)),
          answers_is laws s a x.reads ∙ awaited j,
        );
        apart = λ n. elim (decides laws s.link.phase) [
          | inl j ↦ inr (k.drops ∙ stopped.drops (sym (phase_fits laws s a b x) ∙ j))
          | inr m ↦ inl m
        ];
      }

  -- behind it the session is not up
  pub reset_down : (o : Open) (s : Side) (a b : End Message) → Stands s a b → (draft_reset (OpenMsg o) s).overflows ≡ false → is_established (draft_reset (OpenMsg o) s).session.state ≡ false
  reset_down o s a b x over =
      let d : Draft = draft_event (OpenMsg o) s ManualStop in
      let stopped = subst (λ (t : Side). Stopped s.session.state t (draft_event (OpenMsg o) t ManualStop)) (at_own laws s a b x) (like s.session.state s) in
      let k : Restarts o d (draft_reset (OpenMsg o) s) =
      subst (λ (i : Draft). (react (OpenMsg o) NoMessage i ManualStart).overflows ≡ false → Restarts o i (react (OpenMsg o) NoMessage i ManualStart)) stopped.idle
      (λ over'. from_idle (is_joinable d.link) (fits (next_number d.link)) o d d.session refl refl over') over in
      ap (λ (i : SessionView). is_established i.state) k.session ∙ k.down
    where
      like : (st : State) (t : Side) → Stopped st (at st t) (draft_event (OpenMsg o) (at st t) ManualStop)
      like st t = (let i = stopped_is st o t in record { idle = i.idle; link = i.link; drops = i.drops; down = i.down })

  pub reset_event : (o : Open) (s : Side) (a b : End Message) → Stands s a b → (s.link.phase ≡ phase.Joined → s.link.heard ≡ s.link.epoch) → (draft_reset (OpenMsg o) s).overflows ≡ false → Row s NoMessage (draft_reset (OpenMsg o) s) a b
  reset_event o s a b x own over =
      reset_row o s a b x own (subst (λ (t : Side). Stopped s.session.state t (draft_event (OpenMsg o) t ManualStop)) (at_own laws s a b x) (like s.session.state s)) over
    where
      like : (st : State) (t : Side) → Stopped st (at st t) (draft_event (OpenMsg o) (at st t) ManualStop)
      like st t = (let k = stopped_is st o t in record { idle = k.idle; link = k.link; drops = k.drops; down = k.down })
