-- Rows of the table of session events that take nothing: commands and timers.
use Rattle.std.proofs.Common.{◌≡◌, ◌≢◌, ℕ, Bool, true, false, cond, [], ◌∷◌, refl, ap, sym, ◌∙◌, subst, arith, inl, inr, Option, None, Some}
use Rattle.bgp_codec.specs.declared.message.Message.{Message}
use Rattle.bgp_codec.specs.declared.message.Message.TheVariants.{OpenMsg, AliveMsg}
use Rattle.bgp_codec.specs.declared.open.Open.{Open}
use Rattle.link_epoch.specs.Ends.{is_joinable, next_number, dialled, hung_up}
use Rattle.link_epoch.specs.declared.link_end.Phase.{Phase}
use Rattle.link_epoch.specs.declared.link_end.Phase.TheVariants as phase
use Rattle.session_fsm.specs.Table as sessions
use Rattle.session_fsm.specs.Table.{SessionView}
use Rattle.bgp_values.specs.declared.faults.TheConstants.{FSM_ERROR, CEASE, HOLD_TIMER_EXPIRED}
use Rattle.session_fsm.specs.declared.state.State.{State}
use Rattle.session_fsm.specs.declared.state.State.TheVariants as state
use Rattle.session_fsm.specs.declared.event.FsmEvent.{FsmEvent}
use Rattle.session_fsm.specs.declared.event.FsmEvent.TheVariants as event
use Rattle.run_model.specs.Links as links
use Rattle.run_model.specs.Links.{Entry, Dial, Says, Mark, Shut, End, Move, Dials, Tells, Marks, HangsUp, Takes, answers}
use Rattle.run_model.specs.Sessions as model
use Rattle.run_model.specs.Sessions.{Starts, Retries, Closes, Speaks, Fails, moves_of, hanging}
use Rattle.router_model.specs.Sides.{Side, Draft, AtHand, NoMessage, draft_of, carried, draft_event, notification, fits, react, react_once, apply}
use Rattle.router_runs.specs.Reading.{state_of, phase_of, phase_in, closing}
use Rattle.router_runs.proofs.Closes.{one_message, not_idle}
use Rattle.router_runs.specs.Doing.{Stands, Does, Row}
use Rattle.router_runs.proofs.Moving.{answers_is}
use Rattle.router_runs.proofs.Doing.{by_event, no_event}
use Rattle.router_runs.proofs.Lower.{Laws}

-- a side in this state, and in the phase that goes with it
abbrev pub at : State → Side → Side
at st s = record s { session = record s.session { state = st }; link = record s.link { phase = phase_in st } }

module _ (laws : Laws) where
  -- ---- kinds of drafts

  pub quiet_row : (s : Side) (session : SessionView) (a b : End Message) → Stands s a b → s.session.state ≡ session.state → Row s NoMessage (draft_of session s.link) a b
  quiet_row s session a b x same = record {
    does = no_event laws s (carried NoMessage s (draft_of session s.link)) a b x (ap state_of same) refl refl refl;
    joined = λ j. inl (j, refl, refl);
    apart = λ n. inl n;
  }

  -- a joined session closes with a NOTIFICATION
  pub told_does : (s t : Side) (session : SessionView) (left : Option ℕ) (code : ℕ) (a b : End Message) → Stands s a b
      → s.link.phase ≡ phase.Joined → s.session.state ≢ state.Idle → t.session.state ≡ state.Idle
      → hung_up s.link ≡ t.link → s.acted ≡ t.acted → s.sent ≡ t.sent
      → Does s t (closing s session (notification code) left).says [] a b
  told_does s t session left code a b x joined busy idle link acted sent =
      let phase : a.phase ≡ links.Joined = x.reads.phase ∙ ap phase_of joined in
      by_event laws s t a b (Closes (notification code ∷ [])) (Tells (notification code) ∷ HangsUp ∷ []) x
      ((λ i. busy (not_idle s.session.state i)), one_message a.phase (notification code) phase) (rw phase refl) (sym (ap state_of idle)) link acted sent

  pub told_row : (h : AtHand) (s : Side) (session : SessionView) (left : Option ℕ) (code : ℕ) (a b : End Message) → Stands s a b
      → s.link.phase ≡ phase.Joined → s.session.state ≢ state.Idle → session.state ≡ state.Idle
      → Row s h (closing s session (notification code) left) a b
  told_row h s session left code a b x joined busy idle = record {
    does = told_does s (carried h s (closing s session (notification code) left)) session left code a b x joined busy idle refl refl refl;
    joined = λ j. absurd cc;
    apart = λ n. inr refl;
  }

  -- a close without one
  abbrev pub hanging_draft : Side → SessionView → Option ℕ → Draft
  hanging_draft s session left = record {
    session = session;
    link = hung_up s.link;
    says = Shut s.link.epoch ∷ [];
    drops = true;
    acts = false;
    left = left;
    overflows = false;
  }

  hanging_is : (p : links.Phase) (q : Phase) → p ≡ phase_of q → q ≢ phase.Shut → (hanging {M = Message} p ≡ HangsUp ∷ []) × model.MayNotify {M = Message} p []
  hanging_is links.Closed phase.Shut is busy = absurd (busy refl)
  hanging_is links.Closed phase.Offered is busy = absurd cc
  hanging_is links.Closed phase.Joined is busy = absurd cc
  hanging_is links.Offered q is busy = (refl, refl)
  hanging_is links.Joined q is busy = (refl, omega arith)

  pub hung_does : (s t : Side) (a b : End Message) → Stands s a b → s.link.phase ≢ phase.Shut → s.session.state ≢ state.Idle → t.session.state ≡ state.Idle
      → hung_up s.link ≡ t.link → s.acted ≡ t.acted → s.sent ≡ t.sent → Does s t (Shut s.link.epoch ∷ []) [] a b
  hung_does s t a b x out busy idle link acted sent =
      let k = hanging_is a.phase s.link.phase x.reads.phase out in
      by_event laws s t a b (Closes []) (HangsUp ∷ []) x ((λ i. busy (not_idle s.session.state i)), k.1) k.0 (sym (ap state_of idle)) link acted sent

  pub hung_row : (s : Side) (session : SessionView) (left : Option ℕ) (a b : End Message) → Stands s a b → s.link.phase ≢ phase.Shut → s.session.state ≢ state.Idle → session.state ≡ state.Idle
      → Row s NoMessage (hanging_draft s session left) a b
  hung_row s session left a b x out busy idle = record {
    does = hung_does s (carried NoMessage s (hanging_draft s session left)) a b x out busy idle refl refl refl;
    joined = λ j. absurd cc;
    apart = λ n. inr refl;
  }

  -- from Active nothing is hung up
  abbrev pub idling_draft : Side → SessionView → Draft
  idling_draft s session = record { session = session; link = s.link; says = []; drops = true; acts = false; left = None; overflows = false }

  pub idling_row : (s : Side) (session : SessionView) (a b : End Message) → Stands s a b → s.link.phase ≡ phase.Shut → s.session.state ≢ state.Idle → session.state ≡ state.Idle → Row s NoMessage (idling_draft s session) a b
  idling_row s session a b x closed busy idle =
      let here : a.phase ≡ links.Closed = x.reads.phase ∙ ap phase_of closed in
      record {
        does = by_event laws s (carried NoMessage s (idling_draft s session)) a b (Closes []) [] x ((λ i. busy (not_idle s.session.state i)), subst (λ (p : links.Phase). model.MayNotify {M = Message} p []) (sym here) refl) (rw here refl) (sym (ap state_of idle)) refl refl refl;
        joined = λ j. absurd (let k : phase.Shut ≡ phase.Joined = sym closed ∙ j in cc k);
        apart = λ n. inr refl;
      }

  -- a dial of its own, which joins at once or not
  abbrev pub dialled_draft : Bool → Open → Side → SessionView → Bool → Draft
  dialled_draft true own_open s session drops = record {
    session = sessions.sent_open session;
    link = dialled s.link;
    says = Dial (next_number s.link) ∷ Says (next_number s.link) (OpenMsg own_open) ∷ [];
    drops = drops;
    acts = false;
    left = None;
    overflows = false;
  }
  dialled_draft false own_open s session drops = record {
    session = session;
    link = dialled s.link;
    says = Dial (next_number s.link) ∷ [];
    drops = drops;
    acts = false;
    left = None;
    overflows = false;
  }

  not_joined : (c : Bool) → c ≡ false → cond c phase.Joined phase.Offered ≡ phase.Joined → ⊥
  not_joined true is h = cc is
  not_joined false is h = cc h

  pub dialled_row : (c : Bool) (own_open : Open) (s : Side) (session : SessionView) (drops : Bool) (a b : End Message) → is_joinable s.link ≡ c → Stands s a b
      → model.MayRestart (state_of s.session.state) → s.link.phase ≢ phase.Joined → session.state ≡ state.Connect
      → Row s NoMessage (dialled_draft c own_open s session drops) a b
  dialled_row true own_open s session drops a b is x may apart connect =
      let yes : answers a ≡ true = answers_is laws s a x.reads ∙ is in
      record {
        does = by_event laws s (carried NoMessage s (dialled_draft true own_open s session drops)) a b (Starts (OpenMsg own_open)) (Dials ∷ Tells (OpenMsg own_open) ∷ []) x may (rw yes refl) (rw yes refl) refl refl refl;
        joined = λ j. inr (apart, yes);
        apart = λ n. inl apart;
      }
  dialled_row false own_open s session drops a b is x may apart connect =
      let no : answers a ≡ false = answers_is laws s a x.reads ∙ is in
      record {
        does = by_event laws s (carried NoMessage s (dialled_draft false own_open s session drops)) a b (Starts (OpenMsg own_open)) (Dials ∷ []) x may (rw no refl) (rw no (sym (ap state_of connect))) refl refl refl;
        joined = λ j. absurd (not_joined (is_joinable s.link) is j);
        apart = λ n. inl apart;
      }

  -- an offer is taken back, and dialled again
  abbrev pub retried_draft : Bool → Open → Side → SessionView → Draft
  retried_draft true own_open s session = record {
    session = sessions.sent_open session;
    link = dialled (hung_up s.link);
    says = Shut s.link.epoch ∷ Dial (next_number s.link) ∷ Says (next_number s.link) (OpenMsg own_open) ∷ [];
    drops = true;
    acts = false;
    left = None;
    overflows = false;
  }
  retried_draft false own_open s session = record {
    session = session;
    link = dialled (hung_up s.link);
    says = Shut s.link.epoch ∷ Dial (next_number s.link) ∷ [];
    drops = true;
    acts = false;
    left = None;
    overflows = false;
  }

  pub retried_row : (c : Bool) (own_open : Open) (s : Side) (session : SessionView) (a b : End Message) → is_joinable s.link ≡ c → Stands s a b
      → s.session.state ≡ state.Connect → s.link.phase ≢ phase.Joined → session.state ≡ state.Connect
      → Row s NoMessage (retried_draft c own_open s session) a b
  retried_row true own_open s session a b is x was apart connect =
      let yes : answers a ≡ true = answers_is laws s a x.reads ∙ is in
      record {
        does = by_event laws s (carried NoMessage s (retried_draft true own_open s session)) a b (Retries (OpenMsg own_open)) (HangsUp ∷ Dials ∷ Tells (OpenMsg own_open) ∷ []) x (ap state_of was) (rw yes refl) (rw yes refl) refl refl refl;
        joined = λ j. inr (apart, yes);
        apart = λ n. inl apart;
      }
  retried_row false own_open s session a b is x was apart connect =
      let no : answers a ≡ false = answers_is laws s a x.reads ∙ is in
      record {
        does = by_event laws s (carried NoMessage s (retried_draft false own_open s session)) a b (Retries (OpenMsg own_open)) (HangsUp ∷ Dials ∷ []) x (ap state_of was) (rw no refl) (rw no (sym (ap state_of connect))) refl refl refl;
        joined = λ j. absurd (not_joined (is_joinable s.link) is j);
        apart = λ n. inl apart;
      }

  -- a KEEPALIVE is said
  abbrev pub alive_draft : Side → SessionView → Draft
  alive_draft s session = record (draft_of session s.link) { says = Says s.link.epoch AliveMsg ∷ [] }

  pub alive_row : (s : Side) (session : SessionView) (a b : End Message) → Stands s a b → model.MaySay (state_of s.session.state) → s.session.state ≡ session.state → Row s NoMessage (alive_draft s session) a b
  alive_row s session a b x may same = record {
    does = by_event laws s (carried NoMessage s (alive_draft s session)) a b (Speaks AliveMsg) (Tells AliveMsg ∷ []) x may refl (ap state_of same) refl refl refl;
    joined = λ j. inl (j, refl, refl);
    apart = λ n. inl n;
  }

  -- ---- commands and timers

  -- the events that come alone
  abbrev pub IsOwn : FsmEvent → Type 0
  IsOwn event.ManualStart = Unit {0}
  IsOwn event.ManualStop = Unit {0}
  IsOwn event.AutomaticStart = Unit {0}
  IsOwn event.ConnectRetryTimerExpires = Unit {0}
  IsOwn event.HoldTimerExpires = Unit {0}
  IsOwn event.KeepaliveTimerExpires = Unit {0}
  IsOwn _ = ⊥

  -- a dial whose number fits, computed
  dial_is : (c f : Bool) (o : Open) (s : Side) → is_joinable s.link ≡ c → fits (next_number s.link) ≡ f → (draft_event (OpenMsg o) (at state.Idle s) event.ManualStart).overflows ≡ false
      → draft_event (OpenMsg o) (at state.Idle s) event.ManualStart ≡ dialled_draft c o (at state.Idle s) (sessions.starting (at state.Idle s).session) false
  unfolding react react_once apply
  dial_is true true o s aw fit over = let low = rw aw at fit in rw (aw, low) refl
  dial_is false true o s aw fit over = let low = rw aw at fit in rw (aw, low) refl
  dial_is true false o s aw fit over = absurd (let low = rw aw at fit in let k = rw (aw, low) at over in cc k)
  dial_is false false o s aw fit over = absurd (let low = rw aw at fit in let k = rw (aw, low) at over in cc k)

  dial_again : (c f : Bool) (o : Open) (s : Side) → is_joinable s.link ≡ c → fits (next_number s.link) ≡ f → (draft_event (OpenMsg o) (at state.Active s) event.ConnectRetryTimerExpires).overflows ≡ false
      → draft_event (OpenMsg o) (at state.Active s) event.ConnectRetryTimerExpires ≡ dialled_draft c o (at state.Active s) (sessions.dialling (at state.Active s).session) false
  unfolding react react_once apply
  dial_again true true o s aw fit over = let low = rw aw at fit in rw (aw, low) refl
  dial_again false true o s aw fit over = let low = rw aw at fit in rw (aw, low) refl
  dial_again true false o s aw fit over = absurd (let low = rw aw at fit in let k = rw (aw, low) at over in cc k)
  dial_again false false o s aw fit over = absurd (let low = rw aw at fit in let k = rw (aw, low) at over in cc k)

  retry_is : (c f : Bool) (o : Open) (s : Side) → is_joinable s.link ≡ c → fits (next_number s.link) ≡ f → (draft_event (OpenMsg o) (at state.Connect s) event.ConnectRetryTimerExpires).overflows ≡ false
      → draft_event (OpenMsg o) (at state.Connect s) event.ConnectRetryTimerExpires ≡ retried_draft c o (at state.Connect s) (sessions.dialling (at state.Connect s).session)
  unfolding react react_once apply
  retry_is true true o s aw fit over = let low = rw aw at fit in rw (aw, low) refl
  retry_is false true o s aw fit over = let low = rw aw at fit in rw (aw, low) refl
  retry_is true false o s aw fit over = absurd (let low = rw aw at fit in let k = rw (aw, low) at over in cc k)
  retry_is false false o s aw fit over = absurd (let low = rw aw at fit in let k = rw (aw, low) at over in cc k)

  -- the row of each state and event
  own_row : (e : FsmEvent) → IsOwn e → (st : State) (o : Open) (s : Side) (a b : End Message) → Stands (at st s) a b → (draft_event (OpenMsg o) (at st s) e).overflows ≡ false
      → Row (at st s) NoMessage (draft_event (OpenMsg o) (at st s) e) a b
  unfolding react react_once apply
  own_row event.ManualStart own state.Idle o s a b x over =
      subst (λ (d : Draft). Row (at state.Idle s) NoMessage d a b) (sym (dial_is (is_joinable s.link) (fits (next_number s.link)) o s refl refl over))
      (dialled_row (is_joinable s.link) o (at state.Idle s) (sessions.starting (at state.Idle s).session) false a b refl x tt (λ j. cc j) refl)
  own_row event.ManualStart own state.Connect o s a b x over = quiet_row (at state.Connect s) (at state.Connect s).session a b x refl
  own_row event.ManualStart own state.Active o s a b x over = quiet_row (at state.Active s) (at state.Active s).session a b x refl
  own_row event.ManualStart own state.OpenSent o s a b x over = quiet_row (at state.OpenSent s) (at state.OpenSent s).session a b x refl
  own_row event.ManualStart own state.OpenConfirm o s a b x over = quiet_row (at state.OpenConfirm s) (at state.OpenConfirm s).session a b x refl
  own_row event.ManualStart own state.Established o s a b x over = quiet_row (at state.Established s) (at state.Established s).session a b x refl
  own_row event.AutomaticStart own state.Idle o s a b x over =
      subst (λ (d : Draft). Row (at state.Idle s) NoMessage d a b) (sym (dial_is (is_joinable s.link) (fits (next_number s.link)) o s refl refl over))
      (dialled_row (is_joinable s.link) o (at state.Idle s) (sessions.starting (at state.Idle s).session) false a b refl x tt (λ j. cc j) refl)
  own_row event.AutomaticStart own state.Connect o s a b x over = quiet_row (at state.Connect s) (at state.Connect s).session a b x refl
  own_row event.AutomaticStart own state.Active o s a b x over = quiet_row (at state.Active s) (at state.Active s).session a b x refl
  own_row event.AutomaticStart own state.OpenSent o s a b x over = quiet_row (at state.OpenSent s) (at state.OpenSent s).session a b x refl
  own_row event.AutomaticStart own state.OpenConfirm o s a b x over = quiet_row (at state.OpenConfirm s) (at state.OpenConfirm s).session a b x refl
  own_row event.AutomaticStart own state.Established o s a b x over = quiet_row (at state.Established s) (at state.Established s).session a b x refl
  own_row event.ManualStop own state.Idle o s a b x over = quiet_row (at state.Idle s) (record (at state.Idle s).session { restart_timer = 0 }) a b x refl
  own_row event.ManualStop own state.Connect o s a b x over = hung_row (at state.Connect s) (sessions.stopped (at state.Connect s).session) None a b x (λ p. cc p) (λ i. cc i) refl
  own_row event.ManualStop own state.Active o s a b x over = idling_row (at state.Active s) (sessions.stopped (at state.Active s).session) a b x refl (λ i. cc i) refl
  own_row event.ManualStop own state.OpenSent o s a b x over = told_row NoMessage (at state.OpenSent s) (sessions.stopped (at state.OpenSent s).session) None CEASE a b x refl (λ i. cc i) refl
  own_row event.ManualStop own state.OpenConfirm o s a b x over = told_row NoMessage (at state.OpenConfirm s) (sessions.stopped (at state.OpenConfirm s).session) None CEASE a b x refl (λ i. cc i) refl
  own_row event.ManualStop own state.Established o s a b x over = told_row NoMessage (at state.Established s) (sessions.stopped (at state.Established s).session) (Some s.link.epoch) CEASE a b x refl (λ i. cc i) refl
  own_row event.ConnectRetryTimerExpires own state.Idle o s a b x over = quiet_row (at state.Idle s) (at state.Idle s).session a b x refl
  own_row event.ConnectRetryTimerExpires own state.Connect o s a b x over =
      subst (λ (d : Draft). Row (at state.Connect s) NoMessage d a b) (sym (retry_is (is_joinable s.link) (fits (next_number s.link)) o s refl refl over))
      (retried_row (is_joinable s.link) o (at state.Connect s) (sessions.dialling (at state.Connect s).session) a b refl x refl (λ j. cc j) refl)
  own_row event.ConnectRetryTimerExpires own state.Active o s a b x over =
      subst (λ (d : Draft). Row (at state.Active s) NoMessage d a b) (sym (dial_again (is_joinable s.link) (fits (next_number s.link)) o s refl refl over))
      (dialled_row (is_joinable s.link) o (at state.Active s) (sessions.dialling (at state.Active s).session) false a b refl x tt (λ j. cc j) refl)
  own_row event.ConnectRetryTimerExpires own state.OpenSent o s a b x over = told_row NoMessage (at state.OpenSent s) (sessions.closed (at state.OpenSent s).session) None FSM_ERROR a b x refl (λ i. cc i) refl
  own_row event.ConnectRetryTimerExpires own state.OpenConfirm o s a b x over = told_row NoMessage (at state.OpenConfirm s) (sessions.closed (at state.OpenConfirm s).session) None FSM_ERROR a b x refl (λ i. cc i) refl
  own_row event.ConnectRetryTimerExpires own state.Established o s a b x over = told_row NoMessage (at state.Established s) (sessions.closed (at state.Established s).session) (Some s.link.epoch) FSM_ERROR a b x refl (λ i. cc i) refl
  own_row event.HoldTimerExpires own state.Idle o s a b x over = quiet_row (at state.Idle s) (at state.Idle s).session a b x refl
  own_row event.HoldTimerExpires own state.Connect o s a b x over = hung_row (at state.Connect s) (sessions.closed (at state.Connect s).session) None a b x (λ p. cc p) (λ i. cc i) refl
  own_row event.HoldTimerExpires own state.Active o s a b x over = idling_row (at state.Active s) (sessions.closed (at state.Active s).session) a b x refl (λ i. cc i) refl
  own_row event.HoldTimerExpires own state.OpenSent o s a b x over = told_row NoMessage (at state.OpenSent s) (sessions.closed (at state.OpenSent s).session) None HOLD_TIMER_EXPIRED a b x refl (λ i. cc i) refl
  own_row event.HoldTimerExpires own state.OpenConfirm o s a b x over = told_row NoMessage (at state.OpenConfirm s) (sessions.closed (at state.OpenConfirm s).session) None HOLD_TIMER_EXPIRED a b x refl (λ i. cc i) refl
  own_row event.HoldTimerExpires own state.Established o s a b x over = told_row NoMessage (at state.Established s) (sessions.closed (at state.Established s).session) (Some s.link.epoch) HOLD_TIMER_EXPIRED a b x refl (λ i. cc i) refl
  own_row event.KeepaliveTimerExpires own state.Idle o s a b x over = quiet_row (at state.Idle s) (at state.Idle s).session a b x refl
  own_row event.KeepaliveTimerExpires own state.Connect o s a b x over = hung_row (at state.Connect s) (sessions.closed (at state.Connect s).session) None a b x (λ p. cc p) (λ i. cc i) refl
  own_row event.KeepaliveTimerExpires own state.Active o s a b x over = idling_row (at state.Active s) (sessions.closed (at state.Active s).session) a b x refl (λ i. cc i) refl
  own_row event.KeepaliveTimerExpires own state.OpenSent o s a b x over = told_row NoMessage (at state.OpenSent s) (sessions.closed (at state.OpenSent s).session) None FSM_ERROR a b x refl (λ i. cc i) refl
  own_row event.KeepaliveTimerExpires own state.OpenConfirm o s a b x over = alive_row (at state.OpenConfirm s) (sessions.kept_alive (at state.OpenConfirm s).session) a b x tt refl
  own_row event.KeepaliveTimerExpires own state.Established o s a b x over = alive_row (at state.Established s) (sessions.kept_alive (at state.Established s).session) a b x tt refl
  own_row event.TcpCrAcked own st o s a b x over = absurd own
  own_row event.TcpConnectionConfirmed own st o s a b x over = absurd own
  own_row event.TcpConnectionFails own st o s a b x over = absurd own
  own_row (event.BgpOpen hold) own st o s a b x over = absurd own
  own_row event.BgpHeaderErr own st o s a b x over = absurd own
  own_row event.BgpOpenMsgErr own st o s a b x over = absurd own
  own_row event.NotifMsgVerErr own st o s a b x over = absurd own
  own_row event.NotifMsg own st o s a b x over = absurd own
  own_row event.KeepAliveMsg own st o s a b x over = absurd own
  own_row event.UpdateMsg own st o s a b x over = absurd own
  own_row event.UpdateMsgErr own st o s a b x over = absurd own

  -- the phase goes with the state
  pub phase_fits : (s : Side) (a b : End Message) → Stands s a b → s.link.phase ≡ phase_in s.session.state
  phase_fits s a b x = both s.link.phase s.session.state (sym x.reads.phase ∙ x.fits.phase)
    where
      both : (p : Phase) (st : State) → phase_of p ≡ model.phase_in (state_of st) → p ≡ phase_in st
      both p st h = grind arith

  pub at_own : (s : Side) (a b : End Message) → Stands s a b → at s.session.state s ≡ s
  at_own s a b x = ap (λ (p : Phase). record s { link = record s.link { phase = p } }) (sym (phase_fits s a b x))

  pub own_event : (e : FsmEvent) → IsOwn e → (o : Open) (s : Side) (a b : End Message) → Stands s a b → (draft_event (OpenMsg o) s e).overflows ≡ false → Row s NoMessage (draft_event (OpenMsg o) s e) a b
  own_event e own o s a b x =
      subst (λ (t : Side). Stands t a b → (draft_event (OpenMsg o) t e).overflows ≡ false → Row t NoMessage (draft_event (OpenMsg o) t e) a b) (at_own s a b x)
      (λ y over. own_row e own s.session.state o s a b y over) x
