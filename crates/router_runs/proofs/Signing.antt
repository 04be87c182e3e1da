-- Rows of the table of session events that take a dial, a close, or a marker; and messages that are dropped.
use Rattle.std.proofs.Common.{◌≡◌, ◌≢◌, ℕ, ◌==◌, ◌<◌, Bool, true, false, ◌&&◌, cond, List, [], ◌∷◌, ◌++◌, length, slice_get, refl, ap, sym, ◌∙◌, subst, arith, append_assoc, Option, None, Some, inl, inr}
use Rattle.std.specs.Prelude.{nat_lt}
use Rattle.std.proofs.lemmas.Bool.Decides.{nat_tests}
use Rattle.bgp_codec.specs.declared.message.Message.{Message}
use Rattle.bgp_codec.specs.declared.message.Message.TheVariants.{OpenMsg, UpdateMsg}
use Rattle.bgp_codec.specs.declared.open.Open.{Open}
use Rattle.bgp_codec.specs.declared.update.Update.{Update}
use Rattle.link_epoch.specs.Ends.{next_number, dialled, hung_up, heard_by}
use Rattle.link_epoch.specs.declared.link_end.Phase.{Phase}
use Rattle.link_epoch.specs.declared.link_end.Phase.TheVariants as phase
use Rattle.link_epoch.specs.declared.link_end.Sign.{Sign}
use Rattle.link_epoch.specs.declared.link_end.Sign.TheVariants as sign
use Rattle.session_fsm.specs.Table as sessions
use Rattle.session_fsm.specs.Table.{SessionView}
use Rattle.session_fsm.specs.declared.state.State.{State}
use Rattle.session_fsm.specs.declared.state.State.TheVariants as state
use Rattle.run_model.specs.Links as links
use Rattle.run_model.specs.Links.{Entry, Dial, Says, Mark, Shut, End, Move, Dials, Tells, Marks, HangsUp, Takes, incarnation, heard_number, phase_joining, IsNext}
use Rattle.run_model.specs.Sessions as model
use Rattle.run_model.specs.Sessions.{Confirms, Yields, Passes, Fails, Speaks, SendsMarker, IsPassed}
use Rattle.run_model.specs.Octets.{OnlyMessages}
use Rattle.router_model.specs.Sides as sides
use Rattle.router_model.specs.Sides.{Side, Draft, NoMessage, carried, draft_of, draft_sign, is_established, is_up, told, marked, fits, react, react_once, apply}
use Rattle.router_runs.specs.Reading.{state_of, phase_of, phase_in}
use Rattle.router_runs.specs.Moving.{with_used}
use Rattle.router_runs.specs.Doing.{Stands, Does}
use Rattle.router_runs.proofs.Doing.{by_event, no_event, then_does}
use Rattle.router_runs.proofs.Rows.{at, at_own, hung_does}
use Rattle.router_runs.proofs.Handling.{pass_one, later}
use Rattle.router_runs.proofs.Lower.{Laws}

module _ (laws : Laws) where
  -- ---- a dial

  -- it changes what was heard alone
  abbrev quiet_draft : Side → Sign → Draft
  quiet_draft s x = draft_of s.session (heard_by s.link x)

  dial_quiet : (s : Side) (e : ℕ) (a b : End Message) → Stands s a b → IsNext a b (Dial e) → IsPassed a (Dial e) → Does s (carried NoMessage s (quiet_draft s (sign.Dial e))) [] (Dial e ∷ []) a b
  dial_quiet s e a b x next passed = by_event laws s (carried NoMessage s (quiet_draft s (sign.Dial e))) a b (Passes (Dial e)) (Takes (Dial e) ∷ []) x (next, passed) refl refl refl refl refl

  -- it joins nothing: the phase is another, or the number is
  no_join : (t : Bool) (p q : links.Phase) → p ≡ q → phase_joining q ≡ q → cond t (phase_joining p) p ≡ p
  no_join true p q is same = ap phase_joining is ∙ (same ∙ sym is)
  no_join false p q is same = refl

  apart_passed : (s : Side) (q : links.Phase) (e : ℕ) (a b : End Message) → Stands s a b → phase_of s.link.phase ≡ q → phase_joining q ≡ q → IsPassed a (Dial e)
  apart_passed s q e a b x is same = no_join (nat_lt (heard_number a) e && (e == incarnation a)) a.phase q (x.reads.phase ∙ is) same

  test_passed : (t : Bool) (p : links.Phase) → t ≡ false → cond t (phase_joining p) p ≡ p
  test_passed true p is = absurd (cc is)
  test_passed false p is = refl

  -- the peer's greater number is answered
  abbrev yielded : Open → Side → ℕ → Draft
  yielded o s e = record {
    session = sessions.sent_open s.session;
    link = dialled (heard_by s.link (sign.Dial e));
    says = Dial (next_number (heard_by s.link (sign.Dial e))) ∷ Says (next_number (heard_by s.link (sign.Dial e))) (OpenMsg o) ∷ [];
    drops = false;
    acts = false;
    left = None;
    overflows = false;
  }

  yields : (o : Open) (s : Side) (e : ℕ) (a b : End Message) → Stands s a b → IsNext a b (Dial e) → model.WaitsForPeer (state_of s.session.state) → nat_lt s.link.heard e ≡ true → nat_lt s.link.epoch e ≡ true
      → Does s (carried NoMessage s (yielded o s e)) (yielded o s e).says (Dial e ∷ []) a b
  yields o s e a b x next waits above own =
      let re = x.reads.epoch in
      let rh = x.reads.heard in
      let higher : incarnation a < e = grind (arith, nat_tests, own, re) in
      let fresh : heard_number a < e = grind (arith, nat_tests, above, rh) in
      by_event laws s (carried NoMessage s (yielded o s e)) a b (Yields e (OpenMsg o)) (Takes (Dial e) ∷ Dials ∷ Tells (OpenMsg o) ∷ []) x (waits, next, higher, fresh) refl refl refl refl refl

  -- the own number is dialled back
  abbrev confirmed : Open → Side → ℕ → Draft
  confirmed o s e = record (quiet_draft s (sign.Dial e)) { session = sessions.sent_open s.session; says = Says (heard_by s.link (sign.Dial e)).epoch (OpenMsg o) ∷ [] }

  confirms : (o : Open) (s : Side) (e : ℕ) (a b : End Message) → Stands s a b → IsNext a b (Dial e) → s.session.state ≡ state.Connect → nat_lt s.link.heard e ≡ true → (e == s.link.epoch) ≡ true
      → Does s (carried NoMessage s (confirmed o s e)) (confirmed o s e).says (Dial e ∷ []) a b
  confirms o s e a b x next connect above own =
      let re = x.reads.epoch in
      let rh = x.reads.heard in
      let same : e ≡ incarnation a = grind (arith, nat_tests, own, re) in
      let fresh : heard_number a < e = grind (arith, nat_tests, above, rh) in
      by_event laws s (carried NoMessage s (confirmed o s e)) a b (Confirms e (OpenMsg o)) (Takes (Dial e) ∷ Tells (OpenMsg o) ∷ []) x (ap state_of connect, next, same, fresh) refl refl refl refl refl

  -- the draft, computed by the tests
  idle_dial : (h n : Bool) (o : Open) (s : Side) (e : ℕ) → nat_lt s.link.heard e ≡ h → nat_lt s.link.epoch e ≡ n
      → draft_sign (OpenMsg o) (at state.Idle s) (sign.Dial e) ≡ quiet_draft (at state.Idle s) (sign.Dial e)
  unfolding sides.react_to_sign react react_once apply
  idle_dial true true o s e hh hn = rw (hh, hn) refl
  idle_dial true false o s e hh hn = rw (hh, hn) refl
  idle_dial false n o s e hh hn = rw hh refl

  joined_dial : (h : Bool) (st : State) (o : Open) (s : Side) (e : ℕ) → nat_lt s.link.heard e ≡ h → phase_in st ≡ phase.Joined
      → draft_sign (OpenMsg o) (at st s) (sign.Dial e) ≡ quiet_draft (at st s) (sign.Dial e)
  unfolding sides.react_to_sign react react_once apply
  joined_dial h state.Idle o s e hh j = absurd (cc j)
  joined_dial h state.Connect o s e hh j = absurd (cc j)
  joined_dial h state.Active o s e hh j = absurd (cc j)
  joined_dial true state.OpenSent o s e hh j = rw hh refl
  joined_dial false state.OpenSent o s e hh j = rw hh refl
  joined_dial true state.OpenConfirm o s e hh j = rw hh refl
  joined_dial false state.OpenConfirm o s e hh j = rw hh refl
  joined_dial true state.Established o s e hh j = rw hh refl
  joined_dial false state.Established o s e hh j = rw hh refl

  -- by the tests: above what was heard, the own number, above the own number, and whether it fits
  active_dial : (h n f : Bool) (o : Open) (s : Side) (e : ℕ) (a b : End Message) → nat_lt s.link.heard e ≡ h → nat_lt s.link.epoch e ≡ n → fits e ≡ f → Stands (at state.Active s) a b → IsNext a b (Dial e)
      → (draft_sign (OpenMsg o) (at state.Active s) (sign.Dial e)).overflows ≡ false
      → Does (at state.Active s) (carried NoMessage (at state.Active s) (draft_sign (OpenMsg o) (at state.Active s) (sign.Dial e))) (draft_sign (OpenMsg o) (at state.Active s) (sign.Dial e)).says (Dial e ∷ []) a b
  unfolding sides.react_to_sign react react_once apply
  active_dial true true true o s e a b hh hn hf x next over =
      let is : draft_sign (OpenMsg o) (at state.Active s) (sign.Dial e) ≡ yielded o (at state.Active s) e = rw (hh, hn, hn, hf) refl in
      subst (λ (d : Draft). Does (at state.Active s) (carried NoMessage (at state.Active s) d) d.says (Dial e ∷ []) a b) (sym is) (yields o (at state.Active s) e a b x next tt hh hn)
  active_dial true true false o s e a b hh hn hf x next over = absurd (let k = rw (hh, hn, hn, hf) at over in cc k)
  active_dial true false f o s e a b hh hn hf x next over =
      let is : draft_sign (OpenMsg o) (at state.Active s) (sign.Dial e) ≡ quiet_draft (at state.Active s) (sign.Dial e) = rw (hh, hn) refl in
      subst (λ (d : Draft). Does (at state.Active s) (carried NoMessage (at state.Active s) d) d.says (Dial e ∷ []) a b) (sym is) (dial_quiet (at state.Active s) e a b x next (apart_passed (at state.Active s) links.Closed e a b x refl refl))
  active_dial false n f o s e a b hh hn hf x next over =
      let is : draft_sign (OpenMsg o) (at state.Active s) (sign.Dial e) ≡ quiet_draft (at state.Active s) (sign.Dial e) = rw hh refl in
      subst (λ (d : Draft). Does (at state.Active s) (carried NoMessage (at state.Active s) d) d.says (Dial e ∷ []) a b) (sym is) (dial_quiet (at state.Active s) e a b x next (apart_passed (at state.Active s) links.Closed e a b x refl refl))

  connect_dial : (h c n f : Bool) (o : Open) (s : Side) (e : ℕ) (a b : End Message) → nat_lt s.link.heard e ≡ h → (e == s.link.epoch) ≡ c → nat_lt s.link.epoch e ≡ n → fits e ≡ f → Stands (at state.Connect s) a b → IsNext a b (Dial e)
      → (draft_sign (OpenMsg o) (at state.Connect s) (sign.Dial e)).overflows ≡ false
      → Does (at state.Connect s) (carried NoMessage (at state.Connect s) (draft_sign (OpenMsg o) (at state.Connect s) (sign.Dial e))) (draft_sign (OpenMsg o) (at state.Connect s) (sign.Dial e)).says (Dial e ∷ []) a b
  unfolding sides.react_to_sign react react_once apply
  connect_dial true true n f o s e a b hh hc hn hf x next over =
      let is : draft_sign (OpenMsg o) (at state.Connect s) (sign.Dial e) ≡ confirmed o (at state.Connect s) e = rw (hh, hc) refl in
      subst (λ (d : Draft). Does (at state.Connect s) (carried NoMessage (at state.Connect s) d) d.says (Dial e ∷ []) a b) (sym is) (confirms o (at state.Connect s) e a b x next refl hh hc)
  connect_dial true false true true o s e a b hh hc hn hf x next over =
      let is : draft_sign (OpenMsg o) (at state.Connect s) (sign.Dial e) ≡ yielded o (at state.Connect s) e = rw (hh, hc, hn, hn, hf) refl in
      subst (λ (d : Draft). Does (at state.Connect s) (carried NoMessage (at state.Connect s) d) d.says (Dial e ∷ []) a b) (sym is) (yields o (at state.Connect s) e a b x next tt hh hn)
  connect_dial true false true false o s e a b hh hc hn hf x next over = absurd (let k = rw (hh, hc, hn, hn, hf) at over in cc k)
  connect_dial true false false f o s e a b hh hc hn hf x next over =
      let is : draft_sign (OpenMsg o) (at state.Connect s) (sign.Dial e) ≡ quiet_draft (at state.Connect s) (sign.Dial e) = rw (hh, hc, hn) refl in
      let re = x.reads.epoch in
      let other : (e == incarnation a) ≡ false = ap (λ i. e == i) (sym re) ∙ hc in
      let rh = x.reads.heard in
      let above : nat_lt (heard_number a) e ≡ true = ap (λ i. nat_lt i e) (sym rh) ∙ hh in
      subst (λ (d : Draft). Does (at state.Connect s) (carried NoMessage (at state.Connect s) d) d.says (Dial e ∷ []) a b) (sym is)
      (dial_quiet (at state.Connect s) e a b x next (test_passed (nat_lt (heard_number a) e && (e == incarnation a)) a.phase (rw (above, other) refl)))
  connect_dial false c n f o s e a b hh hc hn hf x next over =
      let is : draft_sign (OpenMsg o) (at state.Connect s) (sign.Dial e) ≡ quiet_draft (at state.Connect s) (sign.Dial e) = rw hh refl in
      let rh = x.reads.heard in
      let below : nat_lt (heard_number a) e ≡ false = ap (λ i. nat_lt i e) (sym rh) ∙ hh in
      subst (λ (d : Draft). Does (at state.Connect s) (carried NoMessage (at state.Connect s) d) d.says (Dial e ∷ []) a b) (sym is)
      (dial_quiet (at state.Connect s) e a b x next (test_passed (nat_lt (heard_number a) e && (e == incarnation a)) a.phase (rw below refl)))

  quiet_dial : (st : State) (q : links.Phase) (o : Open) (s : Side) (e : ℕ) (a b : End Message) → draft_sign (OpenMsg o) (at st s) (sign.Dial e) ≡ quiet_draft (at st s) (sign.Dial e) → phase_of (phase_in st) ≡ q → phase_joining q ≡ q
      → Stands (at st s) a b → IsNext a b (Dial e)
      → Does (at st s) (carried NoMessage (at st s) (draft_sign (OpenMsg o) (at st s) (sign.Dial e))) (draft_sign (OpenMsg o) (at st s) (sign.Dial e)).says (Dial e ∷ []) a b
  quiet_dial st q o s e a b is p same x next =
      subst (λ (d : Draft). Does (at st s) (carried NoMessage (at st s) d) d.says (Dial e ∷ []) a b) (sym is) (dial_quiet (at st s) e a b x next (apart_passed (at st s) q e a b x p same))

  dial_row : (st : State) (o : Open) (s : Side) (e : ℕ) (a b : End Message) → Stands (at st s) a b → IsNext a b (Dial e) → (draft_sign (OpenMsg o) (at st s) (sign.Dial e)).overflows ≡ false
      → Does (at st s) (carried NoMessage (at st s) (draft_sign (OpenMsg o) (at st s) (sign.Dial e))) (draft_sign (OpenMsg o) (at st s) (sign.Dial e)).says (Dial e ∷ []) a b
  dial_row state.Idle o s e a b x next over = quiet_dial state.Idle links.Closed o s e a b (idle_dial (nat_lt s.link.heard e) (nat_lt s.link.epoch e) o s e refl refl) refl refl x next
  dial_row state.Connect o s e a b x next over = connect_dial (nat_lt s.link.heard e) (e == s.link.epoch) (nat_lt s.link.epoch e) (fits e) o s e a b refl refl refl refl x next over
  dial_row state.Active o s e a b x next over = active_dial (nat_lt s.link.heard e) (nat_lt s.link.epoch e) (fits e) o s e a b refl refl refl x next over
  dial_row state.OpenSent o s e a b x next over = quiet_dial state.OpenSent links.Joined o s e a b (joined_dial (nat_lt s.link.heard e) state.OpenSent o s e refl refl) refl refl x next
  dial_row state.OpenConfirm o s e a b x next over = quiet_dial state.OpenConfirm links.Joined o s e a b (joined_dial (nat_lt s.link.heard e) state.OpenConfirm o s e refl refl) refl refl x next
  dial_row state.Established o s e a b x next over = quiet_dial state.Established links.Joined o s e a b (joined_dial (nat_lt s.link.heard e) state.Established o s e refl refl) refl refl x next

  pub dial_event : (o : Open) (s : Side) (e : ℕ) (a b : End Message) → Stands s a b → IsNext a b (Dial e) → (draft_sign (OpenMsg o) s (sign.Dial e)).overflows ≡ false
      → Does s (carried NoMessage s (draft_sign (OpenMsg o) s (sign.Dial e))) (draft_sign (OpenMsg o) s (sign.Dial e)).says (Dial e ∷ []) a b
  dial_event o s e a b x next over =
      (subst (λ (t : Side). Stands t a b → (draft_sign (OpenMsg o) t (sign.Dial e)).overflows ≡ false → Does t (carried NoMessage t (draft_sign (OpenMsg o) t (sign.Dial e))) (draft_sign (OpenMsg o) t (sign.Dial e)).says (Dial e ∷ []) a b) (at_own laws s a b x)
      (λ y over'. dial_row s.session.state o s e a b y next over')) x over

  -- ---- the end of an incarnation

  shut_quiet : (s : Side) (e : ℕ) (a b : End Message) → Stands s a b → IsNext a b (Shut e) → IsPassed a (Shut e) → Does s (carried NoMessage s (quiet_draft s (sign.Shut e))) [] (Shut e ∷ []) a b
  shut_quiet s e a b x next passed = by_event laws s (carried NoMessage s (quiet_draft s (sign.Shut e))) a b (Passes (Shut e)) (Takes (Shut e) ∷ []) x (next, passed) refl refl refl refl refl

  -- the joined incarnation ends
  abbrev ended : Side → SessionView → Option ℕ → Draft
  ended s session left = record {
    session = session;
    link = record s.link { heard_is_shut = true; phase = phase.Shut };
    says = Shut s.link.epoch ∷ [];
    drops = true;
    acts = false;
    left = left;
    overflows = false;
  }

  abbrev hung_side : Side → SessionView → Side
  hung_side s session = record s { session = session; link = hung_up s.link }

  then_shut : (s : Side) (session : SessionView) (left : Option ℕ) (e : ℕ) (a b : End Message) → IsNext a b (Shut e) → (e == s.link.heard) ≡ true
      → Does s (hung_side s session) (Shut s.link.epoch ∷ []) [] a b → Does s (carried NoMessage s (ended s session left)) (Shut s.link.epoch ∷ []) (Shut e ∷ []) a b
  then_shut s session left e a b next hit d =
      then_does laws s (hung_side s session) (carried NoMessage s (ended s session left)) (Shut s.link.epoch ∷ []) [] [] (Shut e ∷ []) a b (inr (inl refl)) d
      (λ c appends takes y. by_event laws (hung_side s session) (carried NoMessage s (ended s session left)) c b (Passes (Shut e)) (Takes (Shut e) ∷ []) y
      (later laws a c b (Shut e) takes next, λ j. absurd (let p : c.phase ≡ links.Closed = y.reads.phase in cc (p, j))) refl refl (rw hit refl) refl refl)

  differ : (s : Side) (e : ℕ) (a b : End Message) → (e == s.link.heard) ≡ true → (e == s.link.epoch) ≡ false → heard_number a ≡ incarnation a → s.link.epoch ≡ incarnation a → s.link.heard ≡ heard_number a → ⊥
  differ s e a b hp hq own re rh = (let same : s.link.heard ≡ s.link.epoch = rh ∙ (own ∙ sym re) in cc (hp, hq, same))

  other : (s : Side) (e : ℕ) (a : End Message) → (e == s.link.heard) ≡ false → heard_number a ≡ incarnation a → s.link.heard ≡ heard_number a → e ≢ incarnation a
  other s e a hp own rh = λ is. (let same : e ≡ s.link.heard = is ∙ (sym own ∙ sym rh) in let hit : (e == s.link.heard) ≡ true = grind (arith, nat_tests, same) in cc (hp, hit))

  -- in the joined phase, whether both numbers are the one that is shut
  joined_shut : (p q : Bool) (st : State) (o : Open) (s : Side) (e : ℕ) (a b : End Message) → (e == s.link.heard) ≡ p → (e == s.link.epoch) ≡ q → phase_in st ≡ phase.Joined → heard_number a ≡ incarnation a
      → Stands (at st s) a b → IsNext a b (Shut e)
      → Does (at st s) (carried NoMessage (at st s) (draft_sign (OpenMsg o) (at st s) (sign.Shut e))) (draft_sign (OpenMsg o) (at st s) (sign.Shut e)).says (Shut e ∷ []) a b
  unfolding sides.react_to_sign react react_once apply
  joined_shut p q state.Idle o s e a b hp hq j own x next = absurd (cc j)
  joined_shut p q state.Connect o s e a b hp hq j own x next = absurd (cc j)
  joined_shut p q state.Active o s e a b hp hq j own x next = absurd (cc j)
  joined_shut true true state.OpenSent o s e a b hp hq j own x next =
      let is : draft_sign (OpenMsg o) (at state.OpenSent s) (sign.Shut e) ≡ ended (at state.OpenSent s) (sessions.retrying (at state.OpenSent s).session) None = rw (hp, hq) refl in
      subst (λ (d : Draft). Does (at state.OpenSent s) (carried NoMessage (at state.OpenSent s) d) d.says (Shut e ∷ []) a b) (sym is)
      (then_shut (at state.OpenSent s) (sessions.retrying (at state.OpenSent s).session) None e a b next hp
      (by_event laws (at state.OpenSent s) (hung_side (at state.OpenSent s) (sessions.retrying (at state.OpenSent s).session)) a b Fails (HangsUp ∷ []) x refl refl refl refl refl refl))
  joined_shut true true state.OpenConfirm o s e a b hp hq j own x next =
      let is : draft_sign (OpenMsg o) (at state.OpenConfirm s) (sign.Shut e) ≡ ended (at state.OpenConfirm s) (sessions.closed (at state.OpenConfirm s).session) None = rw (hp, hq) refl in
      subst (λ (d : Draft). Does (at state.OpenConfirm s) (carried NoMessage (at state.OpenConfirm s) d) d.says (Shut e ∷ []) a b) (sym is)
      (then_shut (at state.OpenConfirm s) (sessions.closed (at state.OpenConfirm s).session) None e a b next hp
      (hung_does laws (at state.OpenConfirm s) (hung_side (at state.OpenConfirm s) (sessions.closed (at state.OpenConfirm s).session)) a b x (λ i. cc i) (λ i. cc i) refl refl refl refl))
  joined_shut true true state.Established o s e a b hp hq j own x next =
      let is : draft_sign (OpenMsg o) (at state.Established s) (sign.Shut e) ≡ ended (at state.Established s) (sessions.closed (at state.Established s).session) (Some s.link.epoch) = rw (hp, hq) refl in
      subst (λ (d : Draft). Does (at state.Established s) (carried NoMessage (at state.Established s) d) d.says (Shut e ∷ []) a b) (sym is)
      (then_shut (at state.Established s) (sessions.closed (at state.Established s).session) (Some s.link.epoch) e a b next hp
      (hung_does laws (at state.Established s) (hung_side (at state.Established s) (sessions.closed (at state.Established s).session)) a b x (λ i. cc i) (λ i. cc i) refl refl refl refl))
  joined_shut true false state.OpenSent o s e a b hp hq j own x next = absurd (differ s e a b hp hq own x.reads.epoch x.reads.heard)
  joined_shut true false state.OpenConfirm o s e a b hp hq j own x next = absurd (differ s e a b hp hq own x.reads.epoch x.reads.heard)
  joined_shut true false state.Established o s e a b hp hq j own x next = absurd (differ s e a b hp hq own x.reads.epoch x.reads.heard)
  joined_shut false q state.OpenSent o s e a b hp hq j own x next =
      let is : draft_sign (OpenMsg o) (at state.OpenSent s) (sign.Shut e) ≡ quiet_draft (at state.OpenSent s) (sign.Shut e) = rw hp refl in
      subst (λ (d : Draft). Does (at state.OpenSent s) (carried NoMessage (at state.OpenSent s) d) d.says (Shut e ∷ []) a b) (sym is) (shut_quiet (at state.OpenSent s) e a b x next (λ k. other s e a hp own x.reads.heard))
  joined_shut false q state.OpenConfirm o s e a b hp hq j own x next =
      let is : draft_sign (OpenMsg o) (at state.OpenConfirm s) (sign.Shut e) ≡ quiet_draft (at state.OpenConfirm s) (sign.Shut e) = rw hp refl in
      subst (λ (d : Draft). Does (at state.OpenConfirm s) (carried NoMessage (at state.OpenConfirm s) d) d.says (Shut e ∷ []) a b) (sym is) (shut_quiet (at state.OpenConfirm s) e a b x next (λ k. other s e a hp own x.reads.heard))
  joined_shut false q state.Established o s e a b hp hq j own x next =
      let is : draft_sign (OpenMsg o) (at state.Established s) (sign.Shut e) ≡ quiet_draft (at state.Established s) (sign.Shut e) = rw hp refl in
      subst (λ (d : Draft). Does (at state.Established s) (carried NoMessage (at state.Established s) d) d.says (Shut e ∷ []) a b) (sym is) (shut_quiet (at state.Established s) e a b x next (λ k. other s e a hp own x.reads.heard))

  apart_shut : (st : State) (o : Open) (s : Side) (e : ℕ) (a b : End Message) → phase_in st ≢ phase.Joined → Stands (at st s) a b → IsNext a b (Shut e)
      → Does (at st s) (carried NoMessage (at st s) (draft_sign (OpenMsg o) (at st s) (sign.Shut e))) (draft_sign (OpenMsg o) (at st s) (sign.Shut e)).says (Shut e ∷ []) a b
  unfolding sides.react_to_sign react react_once apply
  apart_shut state.Idle o s e a b n x next = shut_quiet (at state.Idle s) e a b x next (λ k. absurd (let p = x.reads.phase in cc (p, k)))
  apart_shut state.Connect o s e a b n x next = shut_quiet (at state.Connect s) e a b x next (λ k. absurd (let p = x.reads.phase in cc (p, k)))
  apart_shut state.Active o s e a b n x next = shut_quiet (at state.Active s) e a b x next (λ k. absurd (let p = x.reads.phase in cc (p, k)))
  apart_shut state.OpenSent o s e a b n x next = absurd (n refl)
  apart_shut state.OpenConfirm o s e a b n x next = absurd (n refl)
  apart_shut state.Established o s e a b n x next = absurd (n refl)

  shut_row : (st : State) (o : Open) (s : Side) (e : ℕ) (a b : End Message) → (phase_in st ≡ phase.Joined → heard_number a ≡ incarnation a) → Stands (at st s) a b → IsNext a b (Shut e)
      → Does (at st s) (carried NoMessage (at st s) (draft_sign (OpenMsg o) (at st s) (sign.Shut e))) (draft_sign (OpenMsg o) (at st s) (sign.Shut e)).says (Shut e ∷ []) a b
  shut_row state.Idle o s e a b own x next = apart_shut state.Idle o s e a b (λ j. cc j) x next
  shut_row state.Connect o s e a b own x next = apart_shut state.Connect o s e a b (λ j. cc j) x next
  shut_row state.Active o s e a b own x next = apart_shut state.Active o s e a b (λ j. cc j) x next
  shut_row state.OpenSent o s e a b own x next = joined_shut (e == s.link.heard) (e == s.link.epoch) state.OpenSent o s e a b refl refl refl (own refl) x next
  shut_row state.OpenConfirm o s e a b own x next = joined_shut (e == s.link.heard) (e == s.link.epoch) state.OpenConfirm o s e a b refl refl refl (own refl) x next
  shut_row state.Established o s e a b own x next = joined_shut (e == s.link.heard) (e == s.link.epoch) state.Established o s e a b refl refl refl (own refl) x next

  pub shut_event : (o : Open) (s : Side) (e : ℕ) (a b : End Message) → (a.phase ≡ links.Joined → heard_number a ≡ incarnation a) → Stands s a b → IsNext a b (Shut e)
      → Does s (carried NoMessage s (draft_sign (OpenMsg o) s (sign.Shut e))) (draft_sign (OpenMsg o) s (sign.Shut e)).says (Shut e ∷ []) a b
  shut_event o s e a b own x next =
      (subst (λ (t : Side). Stands t a b → Does t (carried NoMessage t (draft_sign (OpenMsg o) t (sign.Shut e))) (draft_sign (OpenMsg o) t (sign.Shut e)).says (Shut e ∷ []) a b) (at_own laws s a b x)
      (λ y. shut_row s.session.state o s e a b (λ j. own (y.reads.phase ∙ ap phase_of j)) y next)) x

  -- ---- a marker, an UPDATE told, messages that are dropped

  pub established : (st : State) → is_established st ≡ true → state_of st ≡ model.Established
  established state.Idle h = absurd (cc h)
  established state.Connect h = absurd (cc h)
  established state.Active h = absurd (cc h)
  established state.OpenSent h = absurd (cc h)
  established state.OpenConfirm h = absurd (cc h)
  established state.Established h = refl

  pub mark_taken : (s : Side) (e n : ℕ) (a b : End Message) → Stands s a b → IsNext a b (Mark e n) → Does s s [] (Mark e n ∷ []) a b
  mark_taken s e n a b x next = pass_one laws s a b (Mark e n) x next tt refl refl refl

  pub mark_event : (s : Side) (n : ℕ) (a b : End Message) → Stands s a b → is_up s ≡ true → Does s (marked n s) (Mark s.link.epoch n ∷ []) [] a b
  mark_event s n a b x up = by_event laws s (marked n s) a b (SendsMarker n) (Marks n ∷ []) x (established s.session.state up) refl refl refl refl refl

  pub told_event : (s : Side) (u : Update) (a b : End Message) → Stands s a b → is_up s ≡ true → Does s (told s u) (Says s.link.epoch (UpdateMsg u) ∷ []) [] a b
  told_event s u a b x up =
      by_event laws s (told s u) a b (Speaks (UpdateMsg u)) (Tells (UpdateMsg u) ∷ []) x (subst model.MaySay (sym (established s.session.state up)) tt) refl refl refl refl refl

  pub at_place : {A : Type 0} (xs : List A) (x : A) (rest l : List A) → xs ++ x ∷ rest ≡ l → slice_get l (length xs) ≡ Some x
  at_place [] x rest l h = ap (λ i. slice_get i 0) (sym h)
  at_place (y ∷ xs) x rest [] h = absurd (cc h)
  at_place (y ∷ xs) x rest (z ∷ l) h = at_place xs x rest l (cc h)

  unused : (p : Phase) (own : Bool) (m : Message) (e : ℕ) (history : ℕ → List Update) → p ≢ phase.Joined → with_used p own m e history ≡ history
  unused phase.Shut own m e history n = refl
  unused phase.Offered own m e history n = refl
  unused phase.Joined own m e history n = absurd (n refl)

  closed_off : (p : Phase) → p ≢ phase.Joined → phase_of p ≡ links.Joined → ⊥
  closed_off phase.Shut n h = cc h
  closed_off phase.Offered n h = cc h
  closed_off phase.Joined n h = n refl

  pub drops_all : (ms : List (Entry Message)) → OnlyMessages ms → (s : Side) (a b : End Message) (rest : List (Entry Message)) → Stands s a b → s.link.phase ≢ phase.Joined
      → a.taken ++ (ms ++ rest) ≡ b.appended → Does s s [] ms a b
  drops_all [] only s a b rest x n is = no_event laws s s a b x refl refl refl refl
  drops_all (Dial e ∷ ms) only s a b rest x n is = absurd only
  drops_all (Mark e k ∷ ms) only s a b rest x n is = absurd only
  drops_all (Shut e ∷ ms) only s a b rest x n is = absurd only
  drops_all (Says e m ∷ ms) only s a b rest x n is =
      then_does laws s s s [] (Says e m ∷ []) [] ms a b (inl refl)
      (pass_one laws s a b (Says e m) x (at_place a.taken (Says e m) (ms ++ rest) b.appended is) (λ j. absurd (closed_off s.link.phase n (sym x.reads.phase ∙ j))) refl (unused s.link.phase (s.link.epoch == e) m e s.acted n) refl)
      (λ c appends takes y. drops_all ms only s c b rest y n (ap (λ l. l ++ (ms ++ rest)) takes ∙ (append_assoc a.taken (Says e m ∷ []) (ms ++ rest) ∙ is)))
