-- What comes from a peer moves a side as its own events do.
use Rattle.std.proofs.Common.{◌≡◌, ℕ, ◌==◌, Bool, true, false, cond, ◌&&◌, ◌||◌, List, [], ◌∷◌, refl, sym, ap, ◌∙◌, arith, inl, inr}
use Rattle.std.specs.Prelude.{nat_lt, Result, Ok, Err}
use Rattle.std.proofs.Math.Bool.{or-false}
use Rattle.std.proofs.lemmas.Bool.{ne_eqb, false_from_ne_true}
use Rattle.bgp_codec.specs.declared.message.Message.{Message}
use Rattle.bgp_codec.specs.declared.message.Message.TheVariants.{OpenMsg, UpdateMsg, NoticeMsg, AliveMsg}
use Rattle.bgp_codec.specs.declared.fault.Fault.{Fault}
use Rattle.bgp_codec.specs.declared.update.Update.{Update}
use Rattle.link_epoch.specs.Ends.{LinkView, is_joinable, next_number, number_shut, heard_by, meaning_of, meaning_of_dial, phase_at_dial}
use Rattle.link_epoch.specs.declared.link_end.Phase.TheVariants.{Shut}
use Rattle.link_epoch.specs.declared.link_end.Sign.{Sign}
use Rattle.link_epoch.specs.declared.link_end.Sign.TheVariants as sign
use Rattle.link_epoch.specs.declared.link_end.Heard.{Heard}
use Rattle.link_epoch.specs.declared.link_end.Heard.TheVariants as heard
use Rattle.session_fsm.specs.declared.state.State.{State}
use Rattle.session_fsm.specs.declared.state.State.TheVariants.{Idle, Connect, Active, OpenSent, OpenConfirm, Established}
use Rattle.session_fsm.specs.declared.event.FsmEvent.{FsmEvent}
use Rattle.session_fsm.specs.declared.event.FsmEvent.TheVariants as event
use Rattle.session_fsm.specs.declared.actions.Action.{Action}
use Rattle.session_fsm.specs.declared.actions.Action.TheVariants as action
use Rattle.session_fsm.specs.Table.{SessionView, on_event}
use Rattle.router_model.specs.Sides.{Side, Draft, AtHand, NoMessage, HasFault, HasUpdate, dials, apply_once, apply, apply_all, react, tells_fault, hangs_up, fits, react_to_sign, is_connecting, draft_sign, draft_message, event_of, at_hand, draft_of, acted_with, is_established, without_front, carried}
use Rattle.router_side.specs.Freshness.{is_opening, is_away, IsFresh, SignsKeepFresh, ActsWhereUp, MessagesKeepFresh}
use Rattle.router_side.proofs.Fresh.{no_dial, acts_in, row, connects, given_keeps, shuts_keeps, quiet, Dialled, moves_dialled, number_by, Moves, comes_moves, keeps_fresh, not_onward, unsaid_on, unsaid_up}

-- ---- a sign of the peer

-- a dial in answer to an offer
offered_at : (o : Message) (a : Draft) (c : State) (f w : Bool) → a.session.state ≡ c → is_connecting c ≡ true → fits (next_number a.link) ≡ f → is_joinable a.link ≡ w
    → (react o NoMessage (dials a) event.TcpConnectionConfirmed).overflows ≡ false → Dialled a.link (react o NoMessage (dials a) event.TcpConnectionConfirmed)
unfolding react apply
offered_at o a Connect true w st k ef ew h = record { epoch = rw (ef, st, ew) (number_by a.link w ew); away = rw (ef, st) refl }
offered_at o a Active true w st k ef ew h = record { epoch = rw (ef, st, ew) (number_by a.link w ew); away = rw (ef, st) refl }
offered_at o a Connect false w st k ef ew h = (let n = rw (ef, st) at h in absurd cc)
offered_at o a Active false w st k ef ew h = (let n = rw (ef, st) at h in absurd cc)
offered_at o a Idle f w st k ef ew h = absurd cc
offered_at o a OpenSent f w st k ef ew h = absurd cc
offered_at o a OpenConfirm f w st k ef ew h = absurd cc
offered_at o a Established f w st k ef ew h = absurd cc

moves_from : (c : State) (k l : LinkView) (a : Draft) → l.epoch ≡ k.epoch → Moves c l a → Moves c k a
moves_from c k l a e m = record {
  onward = elim m.onward [ inl t ↦ inl (omega (arith, t, e)) | inr t ↦ inr (t.0 ∙ e, t.1) ];
  away = m.away;
}

stays : (c : State) (k l : LinkView) (x : SessionView) → x.state ≡ c → l.epoch ≡ k.epoch → (is_away c ≡ true → l.phase ≡ Shut) → Moves c k (draft_of x l)
stays c k l x st e w = record { onward = inr (e, rw st (omega arith)); away = λ t. w (ap is_away (sym st) ∙ t) }

offered_by : (o : Message) (s : Side) (l : LinkView) (b : Bool) → is_connecting s.session.state ≡ b → l.epoch ≡ s.link.epoch → (is_away s.session.state ≡ true → l.phase ≡ Shut)
    → (cond b (react o NoMessage (dials (draft_of s.session l)) event.TcpConnectionConfirmed) (draft_of s.session l)).overflows ≡ false
    → Moves s.session.state s.link (cond b (react o NoMessage (dials (draft_of s.session l)) event.TcpConnectionConfirmed) (draft_of s.session l))
offered_by o s l true k e w h =
    let a = draft_of s.session l in
    moves_from s.session.state s.link l (react o NoMessage (dials a) event.TcpConnectionConfirmed) e
    (moves_dialled s.session.state l (react o NoMessage (dials a) event.TcpConnectionConfirmed)
    (offered_at o a s.session.state (fits (next_number l)) (is_joinable l) refl k refl refl h))
offered_by o s l false k e w h = stays s.session.state s.link l s.session refl e w

answers_by : (o : Message) (s : Side) (l : LinkView) (h : Heard) → l.epoch ≡ s.link.epoch → (is_away s.session.state ≡ true → l.phase ≡ Shut) → (h ≡ heard.Joined → is_away s.session.state ≡ false)
    → (react_to_sign o (draft_of s.session l) h).overflows ≡ false → Moves s.session.state s.link (react_to_sign o (draft_of s.session l) h)
unfolding react_to_sign
answers_by o s l heard.Quiet e w j h = stays s.session.state s.link l s.session refl e w
answers_by o s l heard.Joined e w j h =
    let a = draft_of s.session l in
    moves_from s.session.state s.link l (react o NoMessage a event.TcpCrAcked) e (comes_moves o NoMessage a event.TcpCrAcked w (λ t. (let n = sym (j refl) ∙ t in absurd cc)) h)
answers_by o s l (heard.Offered n) e w j h = offered_by o s l (is_connecting s.session.state) refl e w h
answers_by o s l heard.Closed e w j h =
    let a = draft_of s.session l in
    moves_from s.session.state s.link l (react o NoMessage a event.TcpConnectionFails) e (comes_moves o NoMessage a event.TcpConnectionFails w (λ t. refl) h)

-- what holds of both holds of either
either_holds : {X : Type 0} (P : X → Type 0) (b : Bool) (x y : X) → P x → P y → P (cond b x y)
either_holds {X} P true x y p q = p
either_holds {X} P false x y p q = q

abbrev dialled : LinkView → ℕ → LinkView
dialled l n = record { epoch = l.epoch; heard = n; heard_is_shut = false; phase = phase_at_dial l.phase (n == l.epoch) }

same_epoch : (l : LinkView) (x : Sign) → (heard_by l x).epoch ≡ l.epoch
same_epoch l (sign.Dial n) = either_holds (λ (k : LinkView). k.epoch ≡ l.epoch) (nat_lt l.heard n) (dialled l n) l refl refl
same_epoch l (sign.Shut n) = either_holds (λ (k : LinkView). k.epoch ≡ l.epoch) (n == l.heard) (record l { heard_is_shut = true }) l refl refl

stays_shut : (l : LinkView) (x : Sign) → l.phase ≡ Shut → (heard_by l x).phase ≡ Shut
stays_shut l (sign.Dial n) h = let p : (dialled l n).phase ≡ Shut = rw h refl in either_holds (λ (k : LinkView). k.phase ≡ Shut) (nat_lt l.heard n) (dialled l n) l p h
stays_shut l (sign.Shut n) h = either_holds (λ (k : LinkView). k.phase ≡ Shut) (n == l.heard) (record l { heard_is_shut = true }) l h h

dial_joins : (b c d : Bool) (n : ℕ) → cond b (meaning_of_dial Shut c d n) heard.Quiet ≡ heard.Joined → ⊥
dial_joins true c true n h = absurd cc
dial_joins true c false n h = absurd cc
dial_joins false c d n h = absurd cc

-- an end that is shut joins by no sign
joins_shut : (l : LinkView) (x : Sign) → l.phase ≡ Shut → meaning_of l x ≡ heard.Joined → ⊥
joins_shut l (sign.Dial n) p h = dial_joins (nat_lt l.heard n) (n == l.epoch) (nat_lt l.epoch n) n (rw p at h)
joins_shut l (sign.Shut n) p h = (let k : heard.Quiet ≡ heard.Joined = rw p at h in absurd cc)

pub signs_keep_fresh : SignsKeepFresh
signs_keep_fresh o s x f h =
    keeps_fresh s (draft_sign o s x) f
    (answers_by o s (heard_by s.link x) (meaning_of s.link x) (same_epoch s.link x) (λ t. stays_shut s.link x (f.away t))
    (λ j. false_from_ne_true (is_away s.session.state) (λ t. joins_shut s.link x (f.away t) j)) h)

-- ---- a message or a fault that is handled

abbrev of_message : FsmEvent → Bool
of_message (event.BgpOpen hold) = true
of_message event.BgpHeaderErr = true
of_message event.BgpOpenMsgErr = true
of_message event.NotifMsgVerErr = true
of_message event.NotifMsg = true
of_message event.KeepAliveMsg = true
of_message event.UpdateMsg = true
of_message event.UpdateMsgErr = true
of_message _ = false

is_of_message : (m : Result Message Fault) → of_message (event_of m) ≡ true
is_of_message (Ok (OpenMsg x)) = refl
is_of_message (Ok (UpdateMsg u)) = refl
is_of_message (Ok (NoticeMsg n)) = either_holds (λ (e : FsmEvent). of_message e ≡ true) ((n.code == 2) && (n.sub == 1)) event.NotifMsgVerErr event.NotifMsg refl refl
is_of_message (Ok AliveMsg) = refl
is_of_message (Err f) =
    either_holds (λ (e : FsmEvent). of_message e ≡ true) (f.code == 1) event.BgpHeaderErr (cond (f.code == 2) event.BgpOpenMsgErr event.UpdateMsgErr) refl
    (either_holds (λ (e : FsmEvent). of_message e ≡ true) (f.code == 2) event.BgpOpenMsgErr event.UpdateMsgErr refl refl)

no_message_dials : (st : State) (a : SessionView) (e : FsmEvent) → of_message e ≡ true → no_dial (row st a e).actions ≡ true
no_message_dials st a e h = grind arith

no_message_connects : (e : FsmEvent) → of_message e ≡ true → connects e ≡ false
no_message_connects e h = grind arith

acts_from : (st : State) (a : SessionView) (e : FsmEvent) → acts_in (row st a e).actions ≡ true → (st ≡ Established) × ((row st a e).session.state ≡ Established)
acts_from st a e h = grind arith

or_true : (b : Bool) → (b || true) ≡ true
or_true true = refl
or_true false = refl

acts_all : (o : Message) (g : AtHand) (a : Draft) (xs : List Action) → no_dial xs ≡ true → (apply_all o g a xs).acts ≡ (a.acts || acts_in xs)
unfolding apply
acts_all o g a [] n = sym (or-false a.acts)
acts_all o g a (action.Dial ∷ xs) n = absurd cc
acts_all o g a (action.SendOpen ∷ xs) n = acts_all o g (apply_once o g a action.SendOpen) xs n
acts_all o g a (action.SendAlive ∷ xs) n = acts_all o g (apply_once o g a action.SendAlive) xs n
acts_all o g a (action.SendNotice code ∷ xs) n = acts_all o g (apply_once o g a (action.SendNotice code)) xs n
acts_all o g a (action.SendGiven ∷ xs) n = acts_all o g (tells_fault a g) xs n ∙ ap (λ (b : Bool). b || acts_in xs) (given_keeps (λ (d : Draft). d.acts) a g (λ m. refl))
acts_all o g a (action.HangUp ∷ xs) n = acts_all o g (hangs_up a) xs n ∙ ap (λ (b : Bool). b || acts_in xs) (shuts_keeps (λ (d : Draft). d.acts) a (number_shut a.link) (λ m. refl))
acts_all o g a (action.Act ∷ xs) n = acts_all o g (apply_once o g a action.Act) xs n ∙ sym (or_true a.acts)
acts_all o g a (action.Up ∷ xs) n = acts_all o g a xs n
acts_all o g a (action.Down ∷ xs) n = acts_all o g (apply_once o g a action.Down) xs n

-- what handling leaves: its session and link, and whether it acts
record Handled (s : Side) (e : FsmEvent) (a : Draft) : Type 0 where
  session : a.session ≡ (on_event s.session e).session
  epoch : a.link.epoch ≡ s.link.epoch
  fits : a.overflows ≡ false
  acts : a.acts ≡ acts_in (on_event s.session e).actions
  moves : Moves s.session.state s.link a

handles : (o : Message) (g : AtHand) (s : Side) (e : FsmEvent) → of_message e ≡ true → IsFresh s → Handled s e (react o g (draft_of s.session s.link) e)
unfolding react
handles o g s e h f =
    let xs = (on_event s.session e).actions in
    let b = record (draft_of s.session s.link) { session = (on_event s.session e).session } in
    let n = no_message_dials s.session.state s.session e h in
    let q = quiet o g b xs n in
    record {
      session = q.session;
      epoch = q.epoch;
      fits = q.overflows;
      acts = acts_all o g b xs n;
      moves = comes_moves o g (draft_of s.session s.link) e f.away (λ t. no_message_connects e h) q.overflows;
    }

acts_up : (s : Side) (e : FsmEvent) (a : Draft) → Handled s e a → ActsWhereUp s a
acts_up s e a d t =
    let at = acts_from s.session.state s.session e (sym d.acts ∙ t) in
    (ap is_established at.0, ap (λ (w : SessionView). is_established w.state) d.session ∙ ap is_established at.1, d.epoch)

acted_elsewhere : (b : Bool) (g : AtHand) (e : ℕ) (h : ℕ → List Update) (n : ℕ) → (b ≡ true → n ≡ e → ⊥) → acted_with b g e h n ≡ h n
acted_elsewhere true NoMessage e h n d = refl
acted_elsewhere true (HasFault fault) e h n d = refl
acted_elsewhere true (HasUpdate u) e h n d = rw (ne_eqb n e (d refl)) refl
acted_elsewhere false g e h n d = refl

opening_down : (c : State) → is_opening c ≡ true → is_established c ≡ true → ⊥
opening_down c h k = grind arith

handled_keeps : (g : AtHand) (s : Side) (e : FsmEvent) (a : Draft) → IsFresh s → Handled s e a → IsFresh (carried g (without_front s) a)
handled_keeps g s e a f d = record {
  later = λ n l.
      let w = f.later n (omega (arith, l, d.epoch)) in
      (acted_elsewhere a.acts g a.link.epoch s.acted n (λ t k. omega (arith, l, k)) ∙ w.0, w.1);
  opening = λ t.
      let w = unsaid_on s a f d.moves t in
      (acted_elsewhere a.acts g a.link.epoch s.acted a.link.epoch (λ b k. opening_down a.session.state t (acts_up s e a d b).1) ∙ w.0, w.1);
  away = d.moves.away;
}

pub messages_keep_fresh : MessagesKeepFresh
messages_keep_fresh o m s f =
    let e = event_of m in
    let a = draft_message o m s in
    let d = handles o (at_hand m) s e (is_of_message m) f in
    record {
      fits = d.fits;
      fresh = handled_keeps (at_hand m) s e a f d;
      up = λ u w. unsaid_up s a f d.moves u w;
      onward = not_onward s a d.moves;
      acts = acts_up s e a d;
    }
