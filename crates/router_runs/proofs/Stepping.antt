-- A step of a router, on its side towards one peer.
use Rattle.std.proofs.Common.{◌≡◌, ◌≢◌, ℕ, ◌==◌, Bool, true, false, cond, List, [], ◌∷◌, ◌++◌, refl, ap, sym, ◌∙◌, subst, arith, append_assoc, Option, None, Some, inl, inr, ◌⊎◌}
use Rattle.std.specs.Prelude.{if◌then◌else◌}
use mathlib.Core.List.{IsPrefix}
use Rattle.std.proofs.lemmas.List.{append-nil}
use Rattle.std.proofs.lemmas.Bool.Decides.{nat_tests}
use Rattle.bgp_codec.specs.declared.message.Message.{Message}
use Rattle.bgp_codec.specs.declared.message.Message.TheVariants.{OpenMsg}
use Rattle.bgp_codec.specs.declared.open.Open.{Open}
use Rattle.bgp_codec.specs.Header.{IsFrame}
use Rattle.bgp_framing.specs.Held.{is_waiting}
use Rattle.link_epoch.specs.declared.link_end.Phase.{Phase}
use Rattle.link_epoch.specs.declared.link_end.Phase.TheVariants as phase
use Rattle.session_fsm.specs.Timers.{ticked, runs_out}
use Rattle.session_fsm.specs.declared.state.State.{State}
use Rattle.session_fsm.specs.declared.state.State.TheVariants as state
use Rattle.session_fsm.specs.declared.event.FsmEvent.{FsmEvent}
use Rattle.session_fsm.specs.declared.event.FsmEvent.TheVariants as event
use Rattle.session_fsm.specs.declared.event.FsmEvent.TheVariants.{ManualStart, ManualStop}
use Rattle.run_model.specs.Links as links
use Rattle.run_model.specs.Links.{Entry, Dial, Says, Mark, Shut, End, incarnation, heard_number, answers, IsNext}
use Rattle.run_model.specs.Octets.{Passing, Control, octets_of, passing, AllGood}
use Rattle.outbox.specs.declared.item.What.{What}
use Rattle.router_model.specs.Settings.{Setting}
use Rattle.router_model.specs.Sides.{Side, Draft, AtHand, NoMessage, carried, draft_of, draft_event, draft_second, expires, react, react_once, apply}
use Rattle.outbox.specs.Items.{passes}
use Rattle.router_model.specs.Step.{says_where}
use Rattle.router_model.specs.Laws.{all_passes}
use Rattle.router_runs.specs.Runs.{written_in}
use Rattle.router_runs.specs.Reading.{sides_after, model_side, phase_of, state_of}
use Rattle.router_runs.specs.Doing.{Stands, Does, Row}
use Rattle.router_runs.specs.Kept.{IsGood, Holds, Advances}
use Rattle.router_runs.proofs.Doing.{no_event, then_does, reads_like}
use Rattle.router_runs.proofs.Rows.{at, at_own, IsOwn, own_event, quiet_row}
use Rattle.router_runs.proofs.Signing.{at_place, drops_all}
use Rattle.router_runs.proofs.Octets.{framing, all_frames, waiting_frame, holds_quiet, holds_control}
use Rattle.router_runs.proofs.Lower.{Laws, dropped_are_messages, next_item}
use Rattle.router_runs.proofs.Entries.{prefix_next}

module _ (laws : Laws) where
  -- what is known of a side as a step comes
  pub record Before (g : Setting) (v : ℕ) (s : Side) (before : List (Passing Message)) (a b : End Message) : Type 0 where
    pub stands : Stands s a b
    pub own : s.link.phase ≡ phase.Joined → s.link.heard ≡ s.link.epoch
    pub holds : Holds g s before a
    pub good : AllGood (IsGood g v) b.appended

  pub own_end : (s : Side) (a b : End Message) → (s.link.phase ≡ phase.Joined → s.link.heard ≡ s.link.epoch) → Stands s a b → a.phase ≡ links.Joined → heard_number a ≡ incarnation a
  own_end s a b own x j = sym x.reads.heard ∙ (own (back s.link.phase (sym x.reads.phase ∙ j)) ∙ x.reads.epoch)
    where
      back : (p : Phase) → phase_of p ≡ links.Joined → p ≡ phase.Joined
      back phase.Shut h = absurd (cc h)
      back phase.Offered h = absurd (cc h)
      back phase.Joined h = refl

  pub same_number : (v w : ℕ) → (v == w) ≡ true → v ≡ w
  same_number v w h = grind (arith, nat_tests, h)

  pub swapped : (v w : ℕ) → (v == w) ≡ (w == v)
  swapped v w = grind (arith, nat_tests)

  -- ---- steps that take nothing

  pub plus_nothing : (g : Setting) (t : Side) (items : List (Passing Message)) (c : End Message) → Holds g t items c → Holds g t (items ++ []) c
  plus_nothing g t items c k = subst (λ i. Holds g t i c) (sym (append-nil items)) k

  -- one that leaves what is held and the link as they are
  pub by_does : (g : Setting) (v : ℕ) (s t : Side) (new : List (Entry Message)) (before : List (Passing Message)) (a b : End Message) → Before g v s before a b → s.link ≡ t.link → s.held ≡ t.held → Does s t new [] a b → Advances g s t new before [] a b
  by_does g v s t new before a b x link held d = record {
    past = [];
    does = d;
    holds = plus_nothing g t before (sides_after (model_side s a) d.events).end (record {
      rest = x.holds.rest;
      only = x.holds.only;
      passed = x.holds.passed ∙ ap (λ l. passing (written_in g) l ++ x.holds.rest) (sym (d.takes ∙ append-nil a.taken));
      joined = λ j. x.holds.joined (ap (λ l. l.phase) link ∙ j) ∙ (ap (λ l. octets_of l.epoch s.held) link ∙ ap (octets_of t.link.epoch) held);
      apart = λ n. sym held ∙ x.holds.apart (λ j. n (sym (ap (λ l. l.phase) link) ∙ j));
    });
  }

  pub idles : (g : Setting) (v : ℕ) (s t : Side) (before : List (Passing Message)) (a b : End Message) → Before g v s before a b → s.session.state ≡ t.session.state → s.link ≡ t.link → s.acted ≡ t.acted → s.sent ≡ t.sent → s.held ≡ t.held
      → Advances g s t [] before [] a b
  idles g v s t before a b x state link acted sent held = by_does g v s t [] before a b x link held (no_event laws s t a b x.stands (ap state_of state) link acted sent)

  pub by_row : (g : Setting) (v : ℕ) (s : Side) (h : AtHand) (d : Draft) (before : List (Passing Message)) (a b : End Message) → Before g v s before a b → IsPrefix before (passing (written_in g) b.appended) → Row s h d a b → Advances g s (carried h s d) d.says before [] a b
  by_row g v s h d before a b x is r = record { past = []; does = r.does; holds = plus_nothing g (carried h s d) before (sides_after (model_side s a) r.does.events).end (holds_quiet laws g s h d before a b x.stands x.holds is r) }

  pub where_row : (g : Setting) (v : ℕ) (c : Bool) (s : Side) (d : Draft) (before : List (Passing Message)) (a b : End Message) → Before g v s before a b → IsPrefix before (passing (written_in g) b.appended) → (c ≡ true → Row s NoMessage d a b)
      → Advances g s (cond c (carried NoMessage s d) s) (says_where c d.says) before [] a b
  where_row g v true s d before a b x is r = by_row g v s NoMessage d before a b x is (r refl)
  where_row g v false s d before a b x is r = idles g v s s before a b x refl refl refl refl refl

  -- ---- a stop never dials; a reset is a stop and a start; a second is a timer

  stop_fits : (st : State) (o : Open) (s : Side) → (draft_event (OpenMsg o) (at st s) ManualStop).overflows ≡ false
  unfolding react react_once apply
  stop_fits state.Idle o s = refl
  stop_fits state.Connect o s = refl
  stop_fits state.Active o s = refl
  stop_fits state.OpenSent o s = refl
  stop_fits state.OpenConfirm o s = refl
  stop_fits state.Established o s = refl

  pub stop_event : (o : Open) (s : Side) (a b : End Message) → Stands s a b → Row s NoMessage (draft_event (OpenMsg o) s ManualStop) a b
  stop_event o s a b x = own_event laws ManualStop tt o s a b x (subst (λ (t : Side). (draft_event (OpenMsg o) t ManualStop).overflows ≡ false) (at_own laws s a b x) (stop_fits s.session.state o s))

  -- the same from a side that differs in its timers
  timer_row : (s : Side) (d : Draft) (a b : End Message) → Row (record s { session = ticked s.session }) NoMessage d a b → Row s NoMessage d a b
  timer_row s d a b r = record {
    does = record { events = r.does.events; may = r.does.may; state = r.does.state; stands = r.does.stands; appends = r.does.appends; takes = r.does.takes; leaves = r.does.leaves };
    joined = r.joined;
    apart = r.apart;
  }

  ticked_stands : (s : Side) (a b : End Message) → Stands s a b → Stands (record s { session = ticked s.session }) a b
  ticked_stands s a b x = record { reads = reads_like laws s (record s { session = ticked s.session }) a refl refl refl x.reads; fits = x.fits; mine = x.mine; theirs = x.theirs }

  second_row : (e : Option FsmEvent) (o : Open) (s : Side) (a b : End Message) → Stands s a b → ((k : FsmEvent) → e ≡ Some k → IsOwn laws k) → (expires (OpenMsg o) (draft_of (ticked s.session) s.link) e).overflows ≡ false
      → Row s NoMessage (expires (OpenMsg o) (draft_of (ticked s.session) s.link) e) a b
  second_row None o s a b x own over = quiet_row laws s (ticked s.session) a b x refl
  second_row (Some e) o s a b x own over =
      timer_row s (expires (OpenMsg o) (draft_of (ticked s.session) s.link) (Some e)) a b (own_event laws e (own e refl) o (record s { session = ticked s.session }) a b (ticked_stands s a b x) over)

  timer_own : (p q r t : Bool) (k : FsmEvent) → cond p (Some event.HoldTimerExpires) (cond q (Some event.KeepaliveTimerExpires) (cond r (Some event.ConnectRetryTimerExpires) (cond t (Some event.AutomaticStart) None))) ≡ Some k → IsOwn laws k
  timer_own true q r t k h = (let is : event.HoldTimerExpires ≡ k = cc h in subst (IsOwn laws) is tt)
  timer_own false true r t k h = (let is : event.KeepaliveTimerExpires ≡ k = cc h in subst (IsOwn laws) is tt)
  timer_own false false true t k h = (let is : event.ConnectRetryTimerExpires ≡ k = cc h in subst (IsOwn laws) is tt)
  timer_own false false false true k h = (let is : event.AutomaticStart ≡ k = cc h in subst (IsOwn laws) is tt)
  timer_own false false false false k h = absurd (cc h)

  pub second_event : (o : Open) (s : Side) (a b : End Message) → Stands s a b → (draft_second (OpenMsg o) s).overflows ≡ false → Row s NoMessage (draft_second (OpenMsg o) s) a b
  second_event o s a b x over =
      second_row (runs_out s.session) o s a b x
      (λ k h. timer_own (s.session.hold_timer == 1) (s.session.keepalive_timer == 1) (s.session.connect_retry_timer == 1) (s.session.restart_timer == 1) k h) over

  -- ---- an item that is an entry

  -- what was dropped passes, and the entry is next
  pub record Ready (g : Setting) (s : Side) (x : Entry Message) (rest : List (Passing Message)) (a b : End Message) : Type 0 where
    pub messages : List (Entry Message)
    pub are : passing (written_in g) messages ≡ rest
    pub does : Does s s [] messages a b
    pub front : IsPrefix (a.taken ++ (messages ++ x ∷ [])) b.appended
    pub none : s.held ≡ []

  pub decides : (p : Phase) → (p ≡ phase.Joined) ⊎ (p ≢ phase.Joined)
  decides phase.Shut = inr (λ h. cc h)
  decides phase.Offered = inr (λ h. cc h)
  decides phase.Joined = inl refl

  pub ready : (g : Setting) (v : ℕ) (s : Side) (before : List (Passing Message)) (a b : End Message) (x : Entry Message) → (k : Before g v s before a b) → is_waiting s.held ≡ false → IsPrefix (before ++ Control x ∷ []) (passing (written_in g) b.appended)
      → Ready g s x k.holds.rest a b
  ready g v s before a b x k waits is = elim (decides s.link.phase) [
    | inl j ↦ (
        let whole : (f rest : List ℕ) → IsFrame f → s.held ≢ f ++ rest = λ f rest fr h. (let yes : is_waiting s.held ≡ true = ap is_waiting h ∙ waiting_frame laws f rest fr in cc (waits, yes)) in
        let there : IsPrefix (passing (written_in g) a.taken ++ (octets_of s.link.epoch s.held ++ Control x ∷ [])) (passing (written_in g) b.appended) =
        subst (λ w. IsPrefix w (passing (written_in g) b.appended)) (ap (λ w. w ++ Control x ∷ []) (k.holds.passed ∙ ap (λ w. passing (written_in g) a.taken ++ w) (k.holds.joined j)) ∙ append_assoc (passing (written_in g) a.taken) (octets_of s.link.epoch s.held) (Control x ∷ [])) is in
        let n = next_item laws (written_in g) (framing laws) a.taken b.appended s.link.epoch x s.held (all_frames laws g v b.appended k.good) k.stands.mine.front there whole in
        record {
          messages = [];
          are = sym (k.holds.joined j ∙ ap (octets_of s.link.epoch) n.0);
          does = no_event laws s s a b k.stands refl refl refl refl;
          front = prefix_next a.taken b.appended x k.stands.mine.front n.1;
          none = n.0;
        })
    | inr n ↦ (
        let there : IsPrefix (passing (written_in g) a.taken ++ (k.holds.rest ++ Control x ∷ [])) (passing (written_in g) b.appended) =
        subst (λ w. IsPrefix w (passing (written_in g) b.appended)) (ap (λ w. w ++ Control x ∷ []) k.holds.passed ∙ append_assoc (passing (written_in g) a.taken) k.holds.rest (Control x ∷ [])) is in
        let d = dropped_are_messages laws (written_in g) a.taken b.appended x k.holds.rest k.stands.mine.front k.holds.only there in
        record {
          messages = d.0;
          are = d.2;
          does = drops_all laws d.0 d.1 s a b (x ∷ d.3.0) k.stands n (ap (λ w. a.taken ++ w) (sym (append_assoc d.0 (x ∷ []) d.3.0)) ∙ (sym (append_assoc a.taken (d.0 ++ x ∷ []) d.3.0) ∙ d.3.1));
          front = d.3;
          none = k.holds.apart n;
        })
  ]

  -- then the entry is taken
  pub then_takes : (g : Setting) (v : ℕ) (s t : Side) (before : List (Passing Message)) (a b : End Message) (x : Entry Message) (new : List (Entry Message)) → (k : Before g v s before a b) → (r : Ready g s x k.holds.rest a b)
      → passing (written_in g) (x ∷ []) ≡ Control x ∷ [] → t.held ≡ [] → ((c : End Message) → Stands s c b → IsNext c b x → Does s t new (x ∷ []) c b)
      → Advances g s t new before (Control x ∷ []) a b
  then_takes g v s t before a b x new k r one none next =
      let d : Does s t new (r.messages ++ x ∷ []) a b =
      then_does laws s s t [] r.messages new (x ∷ []) a b (inl refl) r.does
      (λ c appends takes y. next c y (at_place laws c.taken x r.front.0 b.appended (ap (λ l. l ++ x ∷ r.front.0) takes
      ∙ (append_assoc a.taken r.messages (x ∷ r.front.0) ∙ (ap (λ w. a.taken ++ w) (sym (append_assoc r.messages (x ∷ []) r.front.0)) ∙ (sym (append_assoc a.taken (r.messages ++ x ∷ []) r.front.0) ∙ r.front.1)))))) in
      record { past = r.messages ++ x ∷ []; does = d; holds = holds_control laws g t x r.messages before s a (sides_after (model_side s a) d.events).end k.holds r.are d.takes one none }

  pub where_taken : (g : Setting) (v : ℕ) (c : Bool) (i : What) (x : Entry Message) (s t : Side) (new : List (Entry Message)) (before : List (Passing Message)) (a b : End Message) → passes i ≡ Control x ∷ [] → Before g v s before a b
      → (c ≡ true → Advances g s t new before (Control x ∷ []) a b) → Advances g s (cond c t s) (says_where c new) before (all_passes (if c then i ∷ [] else [])) a b
  where_taken g v true i x s t new before a b p k next = subst (λ w. Advances g s t new before w a b) (sym (append-nil (passes i) ∙ p)) (next refl)
  where_taken g v false i x s t new before a b p k next = idles g v s s before a b k refl refl refl refl refl
