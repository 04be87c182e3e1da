-- Rows of the table of session events that handle a message.
use Rattle.std.proofs.Common.{◌≡◌, ◌≢◌, ℕ, ◌==◌, Bool, true, false, ◌&&◌, cond, List, [], ◌∷◌, ◌++◌, length, slice_get, refl, ap, sym, ◌∙◌, subst, arith, Option, None, Some, inl, inr}
use Rattle.std.specs.Prelude.{Ok}
use Rattle.std.proofs.lemmas.List.{append-nil}
use Rattle.std.proofs.lemmas.Bool.Decides.{nat_tests}
use Rattle.bgp_codec.specs.declared.message.Message.{Message}
use Rattle.bgp_codec.specs.declared.message.Message.TheVariants.{OpenMsg, UpdateMsg, NoticeMsg, AliveMsg}
use Rattle.bgp_codec.specs.declared.open.Open.{Open}
use Rattle.link_epoch.specs.declared.link_end.Phase.TheVariants as phase
use Rattle.session_fsm.specs.Table as sessions
use Rattle.session_fsm.specs.Table.{SessionView}
use Rattle.bgp_values.specs.declared.faults.TheConstants.{FSM_ERROR}
use Rattle.session_fsm.specs.declared.state.State.{State}
use Rattle.session_fsm.specs.declared.state.State.TheVariants as state
use Rattle.session_fsm.specs.declared.event.FsmEvent.TheVariants as event
use Rattle.run_model.specs.Links as links
use Rattle.run_model.specs.Links.{Entry, Says, Shut, End, Move, Tells, HangsUp, Takes, incarnation, IsNext}
use Rattle.run_model.specs.Sessions.{AcceptsOpen, AcceptsKeepalive, Accepts, Passes, IsPassed}
use Rattle.router_model.specs.Sides.{Side, NoMessage, HasUpdate, at_hand, carried, draft_of, draft_message, notification, without_front, react, react_once, apply}
use Rattle.router_runs.specs.Reading.{phase_of, phase_in, closing}
use Rattle.router_runs.specs.Moving.{side_by}
use Rattle.router_runs.specs.Doing.{Stands, Does, Hand}
use Rattle.router_runs.proofs.Doing.{by_event, then_does}
use Rattle.router_runs.proofs.Rows.{at, at_own, hanging_draft, told_does, hung_does}
use Rattle.router_runs.proofs.Lower.{Laws}

module _ (laws : Laws) where
  -- an entry is taken and not used
  pub pass_one : (t : Side) (c b : End Message) (x : Entry Message) → Stands t c b → IsNext c b x → IsPassed c x
      → (side_by (Takes x) t).link ≡ t.link → (side_by (Takes x) t).acted ≡ t.acted → (side_by (Takes x) t).sent ≡ t.sent → Does t t [] (x ∷ []) c b
  pass_one t c b x y next passed link acted sent = by_event laws t t c b (Passes x) (Takes x ∷ []) y (next, passed) refl refl link acted sent

  pub later : (a c b : End Message) (x : Entry Message) → c.taken ≡ a.taken ++ [] → IsNext a b x → IsNext c b x
  later a c b x is next = subst (λ l. slice_get b.appended (length l) ≡ Some x) (sym (is ∙ append-nil a.taken)) next

  -- a message is dropped behind a close
  pub then_drops : (s t : Side) (new : List (Entry Message)) (e : ℕ) (m : Message) (a b : End Message) → t.link.phase ≡ phase.Shut → IsNext a b (Says e m)
      → Does s t new [] a b → Does s t (new ++ []) (Says e m ∷ []) a b
  then_drops s t new e m a b shut next d =
      then_does laws s t t new [] [] (Says e m ∷ []) a b (inr (inl refl)) d
      (λ c appends takes y. pass_one t c b (Says e m) y (later a c b (Says e m) takes next)
      (λ j. absurd (let p : c.phase ≡ links.Closed = y.reads.phase ∙ ap phase_of shut in cc (p, j))) refl (rw shut refl) refl)

  closed_hand : (s : Side) (session : SessionView) (left : Option ℕ) (code : ℕ) (m : Message) (a b : End Message) → Stands s a b → IsNext a b (Says s.link.epoch m)
      → s.link.phase ≡ phase.Joined → s.session.state ≢ state.Idle → session.state ≡ state.Idle → Hand s m (closing s session (notification code) left) a b
  closed_hand s session left code m a b x next joined busy idle =
      let t : Side = carried (at_hand (Ok m)) (without_front s) (closing s session (notification code) left) in
      record {
        does = then_drops s t (closing s session (notification code) left).says s.link.epoch m a b refl next (told_does laws s t session left code a b x joined busy idle refl refl refl);
        joined = λ j. absurd cc;
        apart = λ n. refl;
      }

  hung_hand : (s : Side) (session : SessionView) (left : Option ℕ) (m : Message) (a b : End Message) → Stands s a b → IsNext a b (Says s.link.epoch m)
      → s.link.phase ≢ phase.Shut → s.session.state ≢ state.Idle → session.state ≡ state.Idle → Hand s m (hanging_draft laws s session left) a b
  hung_hand s session left m a b x next out busy idle =
      let t : Side = carried (at_hand (Ok m)) (without_front s) (hanging_draft laws s session left) in
      record {
        does = then_drops s t (Shut s.link.epoch ∷ []) s.link.epoch m a b refl next (hung_does laws s t a b x out busy idle refl refl refl);
        joined = λ j. absurd cc;
        apart = λ n. refl;
      }

  -- its number
  own : (s : Side) (a b : End Message) → Stands s a b → (m : Message) → IsNext a b (Says s.link.epoch m) → IsNext a b (Says (incarnation a) m)
  own s a b x m next = subst (λ e. IsNext a b (Says e m)) x.reads.epoch next

  -- a NOTIFICATION, of a version or not
  notice_hand : (c : Bool) (st : State) (o : Open) (s : Side) (m : Message) (a b : End Message) → at_hand (Ok m) ≡ NoMessage → phase_in st ≡ phase.Joined → Stands (at st s) a b → IsNext a b (Says s.link.epoch m)
      → Hand (at st s) m (react (OpenMsg o) NoMessage (draft_of (at st s).session (at st s).link) (cond c event.NotifMsgVerErr event.NotifMsg)) a b
  unfolding react react_once apply
  notice_hand c state.Idle o s m a b h j x next = absurd (cc j)
  notice_hand c state.Connect o s m a b h j x next = absurd (cc j)
  notice_hand c state.Active o s m a b h j x next = absurd (cc j)
  notice_hand true state.OpenSent o s m a b h j x next = hung_hand (at state.OpenSent s) (sessions.closed (at state.OpenSent s).session) None m a b x next (λ p. cc p) (λ i. cc i) refl
  notice_hand false state.OpenSent o s m a b h j x next = closed_hand (at state.OpenSent s) (sessions.closed (at state.OpenSent s).session) None FSM_ERROR m a b x next refl (λ i. cc i) refl
  notice_hand true state.OpenConfirm o s m a b h j x next = hung_hand (at state.OpenConfirm s) (sessions.closed (at state.OpenConfirm s).session) None m a b x next (λ p. cc p) (λ i. cc i) refl
  notice_hand false state.OpenConfirm o s m a b h j x next = hung_hand (at state.OpenConfirm s) (sessions.closed (at state.OpenConfirm s).session) None m a b x next (λ p. cc p) (λ i. cc i) refl
  notice_hand true state.Established o s m a b h j x next = hung_hand (at state.Established s) (sessions.closed (at state.Established s).session) (Some s.link.epoch) m a b x next (λ p. cc p) (λ i. cc i) refl
  notice_hand false state.Established o s m a b h j x next = hung_hand (at state.Established s) (sessions.closed (at state.Established s).session) (Some s.link.epoch) m a b x next (λ p. cc p) (λ i. cc i) refl

  -- the row of each state and message
  hand_row : (m : Message) (st : State) (o : Open) (s : Side) (a b : End Message) → phase_in st ≡ phase.Joined → Stands (at st s) a b → IsNext a b (Says s.link.epoch m)
      → Hand (at st s) m (draft_message (OpenMsg o) (Ok m) (at st s)) a b
  unfolding react react_once apply
  hand_row m state.Idle o s a b j x next = absurd (cc j)
  hand_row m state.Connect o s a b j x next = absurd (cc j)
  hand_row m state.Active o s a b j x next = absurd (cc j)
  hand_row (OpenMsg p) state.OpenSent o s a b j x next =
      let hit : (s.link.epoch == s.link.epoch) ≡ true = grind (arith, nat_tests) in
      let here : Side = at state.OpenSent s in
      record {
        does = by_event laws here (carried NoMessage (without_front here) (draft_message (OpenMsg o) (Ok (OpenMsg p)) here)) a b (AcceptsOpen (OpenMsg p) AliveMsg) (Takes (Says s.link.epoch (OpenMsg p)) ∷ Tells AliveMsg ∷ []) x
            (refl, own here a b x (OpenMsg p) next) (ap (λ i. Takes (Says i (OpenMsg p)) ∷ Tells AliveMsg ∷ []) (sym x.reads.epoch)) refl refl (rw hit refl) refl;
        joined = λ k. (refl, refl);
        apart = λ n. absurd (n refl);
      }
  hand_row (UpdateMsg u) state.OpenSent o s a b j x next = closed_hand (at state.OpenSent s) (sessions.closed (at state.OpenSent s).session) None FSM_ERROR (UpdateMsg u) a b x next refl (λ i. cc i) refl
  hand_row (NoticeMsg n) state.OpenSent o s a b j x next = notice_hand ((n.code == 2) && (n.sub == 1)) state.OpenSent o s (NoticeMsg n) a b refl j x next
  hand_row AliveMsg state.OpenSent o s a b j x next = closed_hand (at state.OpenSent s) (sessions.closed (at state.OpenSent s).session) None FSM_ERROR AliveMsg a b x next refl (λ i. cc i) refl
  hand_row (OpenMsg p) state.OpenConfirm o s a b j x next = closed_hand (at state.OpenConfirm s) (sessions.closed (at state.OpenConfirm s).session) None FSM_ERROR (OpenMsg p) a b x next refl (λ i. cc i) refl
  hand_row (UpdateMsg u) state.OpenConfirm o s a b j x next = closed_hand (at state.OpenConfirm s) (sessions.closed (at state.OpenConfirm s).session) None FSM_ERROR (UpdateMsg u) a b x next refl (λ i. cc i) refl
  hand_row (NoticeMsg n) state.OpenConfirm o s a b j x next = notice_hand ((n.code == 2) && (n.sub == 1)) state.OpenConfirm o s (NoticeMsg n) a b refl j x next
  hand_row AliveMsg state.OpenConfirm o s a b j x next =
      let hit : (s.link.epoch == s.link.epoch) ≡ true = grind (arith, nat_tests) in
      let here : Side = at state.OpenConfirm s in
      record {
        does = by_event laws here (carried NoMessage (without_front here) (draft_message (OpenMsg o) (Ok AliveMsg) here)) a b (AcceptsKeepalive AliveMsg) (Takes (Says s.link.epoch AliveMsg) ∷ []) x
            (refl, own here a b x AliveMsg next) (ap (λ i. Takes (Says i AliveMsg) ∷ []) (sym x.reads.epoch)) refl refl (rw hit refl) refl;
        joined = λ k. (refl, refl);
        apart = λ n. absurd (n refl);
      }
  hand_row (OpenMsg p) state.Established o s a b j x next = closed_hand (at state.Established s) (sessions.closed (at state.Established s).session) (Some s.link.epoch) FSM_ERROR (OpenMsg p) a b x next refl (λ i. cc i) refl
  hand_row (UpdateMsg u) state.Established o s a b j x next =
      let hit : (s.link.epoch == s.link.epoch) ≡ true = grind (arith, nat_tests) in
      let here : Side = at state.Established s in
      record {
        does = by_event laws here (carried (HasUpdate u) (without_front here) (draft_message (OpenMsg o) (Ok (UpdateMsg u)) here)) a b (Accepts (UpdateMsg u)) (Takes (Says s.link.epoch (UpdateMsg u)) ∷ []) x
            (refl, own here a b x (UpdateMsg u) next) (ap (λ i. Takes (Says i (UpdateMsg u)) ∷ []) (sym x.reads.epoch)) refl refl (rw hit refl) refl;
        joined = λ k. (refl, refl);
        apart = λ n. absurd (n refl);
      }
  hand_row (NoticeMsg n) state.Established o s a b j x next = notice_hand ((n.code == 2) && (n.sub == 1)) state.Established o s (NoticeMsg n) a b refl j x next
  hand_row AliveMsg state.Established o s a b j x next =
      let hit : (s.link.epoch == s.link.epoch) ≡ true = grind (arith, nat_tests) in
      let here : Side = at state.Established s in
      record {
        does = by_event laws here (carried NoMessage (without_front here) (draft_message (OpenMsg o) (Ok AliveMsg) here)) a b (Accepts AliveMsg) (Takes (Says s.link.epoch AliveMsg) ∷ []) x
            (refl, own here a b x AliveMsg next) (ap (λ i. Takes (Says i AliveMsg) ∷ []) (sym x.reads.epoch)) refl refl (rw hit refl) refl;
        joined = λ k. (refl, refl);
        apart = λ n. absurd (n refl);
      }

  pub handled_event : (m : Message) (o : Open) (s : Side) (a b : End Message) → Stands s a b → s.link.phase ≡ phase.Joined → IsNext a b (Says s.link.epoch m) → Hand s m (draft_message (OpenMsg o) (Ok m) s) a b
  handled_event m o s a b x j next =
      subst (λ (t : Side). Stands t a b → t.link.phase ≡ phase.Joined → IsNext a b (Says t.link.epoch m) → Hand t m (draft_message (OpenMsg o) (Ok m) t) a b) (at_own laws s a b x)
      (λ y k n. hand_row m s.session.state o s a b k y n) x j next
