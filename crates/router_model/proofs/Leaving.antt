-- When a session leaves Established, and what that loses.
use Rattle.std.proofs.Common.{◌≡◌, ℕ, ◌==◌, Bool, true, false, cond, List, [], ◌∷◌, refl, ap, sym, ◌∙◌, subst, Option, None, Some, arith}
use Rattle.std.specs.Prelude.{nat_lt}
use Rattle.bgp_codec.specs.declared.message.Message.{Message}
use Rattle.link_epoch.specs.Ends.{LinkView, next_number, number_shut, heard_by, meaning_of, phase_at_dial}
use Rattle.link_epoch.specs.declared.link_end.Sign.{Sign}
use Rattle.link_epoch.specs.declared.link_end.Sign.TheVariants as sign
use Rattle.link_epoch.specs.declared.link_end.Heard.{Heard}
use Rattle.link_epoch.specs.declared.link_end.Heard.TheVariants as heard
use Rattle.session_fsm.specs.Table as sessions
use Rattle.session_fsm.specs.Table.{SessionView, on_event, on_state, on_established}
use Rattle.session_fsm.specs.Timers.{ticked, runs_out}
use Rattle.session_fsm.specs.declared.state.State.{State}
use Rattle.session_fsm.specs.declared.state.State.TheVariants.{Idle, Connect, Active, OpenSent, OpenConfirm, Established}
use Rattle.session_fsm.specs.declared.event.FsmEvent.{FsmEvent}
use Rattle.session_fsm.specs.declared.event.FsmEvent.TheVariants as event
use Rattle.session_fsm.specs.declared.actions.Action.{Action}
use Rattle.session_fsm.specs.declared.actions.Action.TheVariants as action
use Rattle.router_model.specs.Recording.{left_of, DraftsLeaveEstablished}
use Rattle.router_model.specs.Sides as sides
use Rattle.router_model.specs.Sides.{Side, Draft, draft_of, AtHand, NoMessage, HasFault, HasUpdate, apply_once, apply_all_once, react_once, apply, apply_all, react, dials, shuts, fits, is_joined_by, is_connecting, is_established, is_up, draft_event, draft_reset, draft_second, expires, draft_sign, draft_message}

-- ---- actions without Down leave nothing

abbrev NoDown : List Action → Type 0
NoDown [] = Unit {0}
NoDown (action.Dial ∷ xs) = NoDown xs
NoDown (action.SendOpen ∷ xs) = NoDown xs
NoDown (action.SendAlive ∷ xs) = NoDown xs
NoDown (action.SendNotice code ∷ xs) = NoDown xs
NoDown (action.SendGiven ∷ xs) = NoDown xs
NoDown (action.HangUp ∷ xs) = NoDown xs
NoDown (action.Act ∷ xs) = NoDown xs
NoDown (action.Up ∷ xs) = NoDown xs
NoDown (action.Down ∷ xs) = ⊥

dial_left : (b : Bool) (a c d : Draft) → c.left ≡ a.left → d.left ≡ a.left → (cond b c d).left ≡ a.left
dial_left true a c d h k = h
dial_left false a c d h k = k

dials_left : (a : Draft) → (dials a).left ≡ a.left
dials_left a = dial_left (fits (next_number a.link)) a _ _ refl refl

given_left : (g : AtHand) (a : Draft) → (sides.tells_fault a g).left ≡ a.left
given_left NoMessage a = refl
given_left (HasFault fault) a = refl
given_left (HasUpdate update) a = refl

shut_left : (a : Draft) (o : Option ℕ) → (shuts a o).left ≡ a.left
shut_left a None = refl
shut_left a (Some number) = refl

does_all_left : (o : Message) (g : AtHand) (a : Draft) (xs : List Action) → NoDown xs → (apply_all_once o g a xs).left ≡ a.left
does_all_left o g a [] h = refl
does_all_left o g a (action.Dial ∷ xs) h = does_all_left o g (dials a) xs h ∙ dials_left a
does_all_left o g a (action.SendOpen ∷ xs) h = does_all_left o g (apply_once o g a action.SendOpen) xs h
does_all_left o g a (action.SendAlive ∷ xs) h = does_all_left o g (apply_once o g a action.SendAlive) xs h
does_all_left o g a (action.SendNotice code ∷ xs) h = does_all_left o g (apply_once o g a (action.SendNotice code)) xs h
does_all_left o g a (action.SendGiven ∷ xs) h = does_all_left o g (apply_once o g a action.SendGiven) xs h ∙ given_left g a
does_all_left o g a (action.HangUp ∷ xs) h = does_all_left o g (apply_once o g a action.HangUp) xs h ∙ shut_left a (number_shut a.link)
does_all_left o g a (action.Act ∷ xs) h = does_all_left o g (apply_once o g a action.Act) xs h
does_all_left o g a (action.Up ∷ xs) h = does_all_left o g (apply_once o g a action.Up) xs h
does_all_left o g a (action.Down ∷ xs) h = absurd h

acked : (st : State) (s : SessionView) → s.state ≡ st → NoDown (on_event s event.TcpCrAcked).actions
acked st s h = grind arith

confirmed : (st : State) (s : SessionView) → s.state ≡ st → NoDown (on_event s event.TcpConnectionConfirmed).actions
confirmed st s h = grind arith

obeyed_left : (o : Message) (g : AtHand) (a : Draft) (xs : List Action) → NoDown xs → (apply_all o g a xs).left ≡ a.left
unfolding apply react_once
obeyed_left o g a [] h = refl
obeyed_left o g a (action.Dial ∷ xs) h =
    obeyed_left o g (apply o g a action.Dial) xs h
    ∙ dial_left (is_joined_by a action.Dial) a (react_once o g (dials a) event.TcpCrAcked) (dials a)
    (does_all_left o g (record (dials a) { session = (on_event (dials a).session event.TcpCrAcked).session }) (on_event (dials a).session event.TcpCrAcked).actions (acked (dials a).session.state (dials a).session refl) ∙ dials_left a)
    (dials_left a)
obeyed_left o g a (action.SendOpen ∷ xs) h = obeyed_left o g (apply_once o g a action.SendOpen) xs h
obeyed_left o g a (action.SendAlive ∷ xs) h = obeyed_left o g (apply_once o g a action.SendAlive) xs h
obeyed_left o g a (action.SendNotice code ∷ xs) h = obeyed_left o g (apply_once o g a (action.SendNotice code)) xs h
obeyed_left o g a (action.SendGiven ∷ xs) h = obeyed_left o g (apply_once o g a action.SendGiven) xs h ∙ given_left g a
obeyed_left o g a (action.HangUp ∷ xs) h = obeyed_left o g (apply_once o g a action.HangUp) xs h ∙ shut_left a (number_shut a.link)
obeyed_left o g a (action.Act ∷ xs) h = obeyed_left o g (apply_once o g a action.Act) xs h
obeyed_left o g a (action.Up ∷ xs) h = obeyed_left o g (apply_once o g a action.Up) xs h
obeyed_left o g a (action.Down ∷ xs) h = absurd h

-- ---- actions without a dial: what is left, and the session

abbrev pub NoDial : List Action → Type 0
NoDial [] = Unit {0}
NoDial (action.Dial ∷ xs) = ⊥
NoDial (action.SendOpen ∷ xs) = NoDial xs
NoDial (action.SendAlive ∷ xs) = NoDial xs
NoDial (action.SendNotice code ∷ xs) = NoDial xs
NoDial (action.SendGiven ∷ xs) = NoDial xs
NoDial (action.HangUp ∷ xs) = NoDial xs
NoDial (action.Act ∷ xs) = NoDial xs
NoDial (action.Up ∷ xs) = NoDial xs
NoDial (action.Down ∷ xs) = NoDial xs

abbrev lefts : List Action → Option ℕ → ℕ → Option ℕ
lefts [] l e = l
lefts (action.Dial ∷ xs) l e = lefts xs l e
lefts (action.SendOpen ∷ xs) l e = lefts xs l e
lefts (action.SendAlive ∷ xs) l e = lefts xs l e
lefts (action.SendNotice code ∷ xs) l e = lefts xs l e
lefts (action.SendGiven ∷ xs) l e = lefts xs l e
lefts (action.HangUp ∷ xs) l e = lefts xs l e
lefts (action.Act ∷ xs) l e = lefts xs l e
lefts (action.Up ∷ xs) l e = lefts xs l e
lefts (action.Down ∷ xs) l e = lefts xs (Some e) e

record Gone (d : Draft) (session : SessionView) (l : Option ℕ) : Type 0 where
  left : d.left ≡ l
  same : d.session ≡ session

given_same : (g : AtHand) (a : Draft) → ((sides.tells_fault a g).session ≡ a.session) × ((sides.tells_fault a g).link ≡ a.link)
given_same NoMessage a = (refl, refl)
given_same (HasFault fault) a = (refl, refl)
given_same (HasUpdate update) a = (refl, refl)

shut_same : (a : Draft) (o : Option ℕ) → (shuts a o).session ≡ a.session
shut_same a None = refl
shut_same a (Some number) = refl

gone_from : (d : Draft) (s t : SessionView) (xs : List Action) (k l : Option ℕ) (m e : ℕ) → Gone d s (lefts xs k m) → s ≡ t → k ≡ l → m ≡ e → Gone d t (lefts xs l e)
gone_from d s t xs k l m e h p q r =
    subst (λ w. Gone d w (lefts xs l e)) p (subst (λ w. Gone d s (lefts xs w e)) q (subst (λ w. Gone d s (lefts xs k w)) r h))

gone : (o : Message) (g : AtHand) (a : Draft) (xs : List Action) → NoDial xs → Gone (apply_all o g a xs) a.session (lefts xs a.left a.link.epoch)
unfolding apply
gone o g a [] h = record { left = refl; same = refl }
gone o g a (action.Dial ∷ xs) h = absurd h
gone o g a (action.SendOpen ∷ xs) h = gone o g (apply_once o g a action.SendOpen) xs h
gone o g a (action.SendAlive ∷ xs) h = gone o g (apply_once o g a action.SendAlive) xs h
gone o g a (action.SendNotice code ∷ xs) h = gone o g (apply_once o g a (action.SendNotice code)) xs h
gone o g a (action.SendGiven ∷ xs) h =
    let k = given_same g a in
    gone_from _ _ a.session xs _ a.left _ a.link.epoch (gone o g (apply_once o g a action.SendGiven) xs h) k.0 (given_left g a) (ap (λ w. w.epoch) k.1)
gone o g a (action.HangUp ∷ xs) h =
    gone_from _ _ a.session xs _ a.left _ a.link.epoch (gone o g (apply_once o g a action.HangUp) xs h) (shut_same a (number_shut a.link)) (shut_left a (number_shut a.link)) refl
gone o g a (action.Act ∷ xs) h = gone o g (apply_once o g a action.Act) xs h
gone o g a (action.Up ∷ xs) h = gone o g (apply_once o g a action.Up) xs h
gone o g a (action.Down ∷ xs) h = gone o g (apply_once o g a action.Down) xs h

-- ---- the table: Down stands in the rows that leave Established, and in no other

record Leaves (a : SessionView) (e : FsmEvent) (l : Option ℕ) (n : ℕ) : Type 0 where
  none : NoDial (on_established a e).actions
  is : lefts (on_established a e).actions l n ≡ cond (is_established (on_established a e).session.state) l (Some n)

leaves : (a : SessionView) (e : FsmEvent) (l : Option ℕ) (n : ℕ) → a.state ≡ Established → Leaves a e l n
leaves a event.ManualStart l n h = record { none = tt; is = rw h refl }
leaves a event.ManualStop l n h = record { none = tt; is = refl }
leaves a event.AutomaticStart l n h = record { none = tt; is = rw h refl }
leaves a event.ConnectRetryTimerExpires l n h = record { none = tt; is = refl }
leaves a event.HoldTimerExpires l n h = record { none = tt; is = refl }
leaves a event.KeepaliveTimerExpires l n h = record { none = tt; is = rw h refl }
leaves a event.TcpCrAcked l n h = record { none = tt; is = rw h refl }
leaves a event.TcpConnectionConfirmed l n h = record { none = tt; is = rw h refl }
leaves a event.TcpConnectionFails l n h = record { none = tt; is = refl }
leaves a (event.BgpOpen hold) l n h = record { none = tt; is = refl }
leaves a event.BgpHeaderErr l n h = record { none = tt; is = refl }
leaves a event.BgpOpenMsgErr l n h = record { none = tt; is = refl }
leaves a event.NotifMsgVerErr l n h = record { none = tt; is = refl }
leaves a event.NotifMsg l n h = record { none = tt; is = refl }
leaves a event.KeepAliveMsg l n h = record { none = tt; is = rw h refl }
leaves a event.UpdateMsg l n h = record { none = tt; is = rw h refl }
leaves a event.UpdateMsgErr l n h = record { none = tt; is = refl }

idle_row : (a : SessionView) (e : FsmEvent) → NoDown (sessions.on_idle a e).actions
idle_row a e = grind arith

connect_row : (a : SessionView) (e : FsmEvent) → NoDown (sessions.on_connect a e).actions
connect_row a e = grind arith

active_row : (a : SessionView) (e : FsmEvent) → NoDown (sessions.on_active a e).actions
active_row a e = grind arith

open_sent_row : (a : SessionView) (e : FsmEvent) → NoDown (sessions.on_open_sent a e).actions
open_sent_row a e = grind arith

open_confirm_row : (a : SessionView) (e : FsmEvent) → NoDown (sessions.on_open_confirm a e).actions
open_confirm_row a e = grind arith

-- ---- an event that comes

up_is : (st : State) (s : SessionView) → s.state ≡ st → is_established s.state ≡ is_established st
up_is st s h = ap is_established h

comes_quiet : (o : Message) (g : AtHand) (a : Draft) (e : FsmEvent) → NoDown (on_event a.session e).actions → (react o g a e).left ≡ a.left
unfolding react
comes_quiet o g a e h = obeyed_left o g (record a { session = (on_event a.session e).session }) (on_event a.session e).actions h

comes_up : (o : Message) (g : AtHand) (a : Draft) (e : FsmEvent) → a.session.state ≡ Established → (react o g a e).left ≡ cond (is_established (react o g a e).session.state) a.left (Some a.link.epoch)
unfolding react
comes_up o g a e h =
    let row : on_event a.session e ≡ on_established a.session e = ap (λ st. on_state st a.session e) h in
    let l = leaves a.session e a.left a.link.epoch h in
    let none : NoDial (on_event a.session e).actions = subst (λ w. NoDial w.actions) (sym row) l.none in
    let k = gone o g (record a { session = (on_event a.session e).session }) (on_event a.session e).actions none in
    k.left ∙ (ap (λ w. lefts w.actions a.left a.link.epoch) row ∙ (l.is
    ∙ (ap (λ w. cond (is_established w.session.state) a.left (Some a.link.epoch)) (sym row) ∙ ap (λ w. cond (is_established w.state) a.left (Some a.link.epoch)) (sym k.same))))

quiet_left : (b c : Bool) (e : ℕ) (l : Option ℕ) → b ≡ false → l ≡ None → l ≡ left_of b c e
quiet_left true c e l h k = absurd cc
quiet_left false c e l h k = k

up_left : (b c : Bool) (e : ℕ) (l k : Option ℕ) → b ≡ true → k ≡ None → l ≡ cond c k (Some e) → l ≡ left_of b c e
up_left true true e l k h n i = i ∙ n
up_left true false e l k h n i = i
up_left false c e l k h n i = absurd cc

comes_left : (o : Message) (g : AtHand) (a : Draft) (e : FsmEvent) → a.left ≡ None → (react o g a e).left ≡ left_of (is_established a.session.state) (is_established (react o g a e).session.state) a.link.epoch
comes_left o g a e none = at a.session.state refl
  where
    row : (st : State) → a.session.state ≡ st → NoDown (on_state st a.session e).actions → NoDown (on_event a.session e).actions
    row st h d = subst (λ k. NoDown (on_state k a.session e).actions) (sym h) d

    at : (st : State) → a.session.state ≡ st → (react o g a e).left ≡ left_of (is_established a.session.state) (is_established (react o g a e).session.state) a.link.epoch
    at Idle h = quiet_left (is_established a.session.state) _ a.link.epoch _ (ap is_established h) (comes_quiet o g a e (row Idle h (idle_row a.session e)) ∙ none)
    at Connect h = quiet_left (is_established a.session.state) _ a.link.epoch _ (ap is_established h) (comes_quiet o g a e (row Connect h (connect_row a.session e)) ∙ none)
    at Active h = quiet_left (is_established a.session.state) _ a.link.epoch _ (ap is_established h) (comes_quiet o g a e (row Active h (active_row a.session e)) ∙ none)
    at OpenSent h = quiet_left (is_established a.session.state) _ a.link.epoch _ (ap is_established h) (comes_quiet o g a e (row OpenSent h (open_sent_row a.session e)) ∙ none)
    at OpenConfirm h = quiet_left (is_established a.session.state) _ a.link.epoch _ (ap is_established h) (comes_quiet o g a e (row OpenConfirm h (open_confirm_row a.session e)) ∙ none)
    at Established h = up_left (is_established a.session.state) _ a.link.epoch _ a.left (ap is_established h) none (comes_up o g a e h)

-- ---- the drafts

nothing_left : (b : Bool) (e : ℕ) → None ≡ left_of b b e
nothing_left true e = refl
nothing_left false e = refl

pub met_left : (o : Message) (s : Side) (e : FsmEvent) → (draft_event o s e).left ≡ left_of (is_up s) (is_established (draft_event o s e).session.state) s.link.epoch
met_left o s e = comes_left o NoMessage (draft_of s.session s.link) e refl

pub handled_left : (o : Message) (g : AtHand) (s : Side) (e : FsmEvent) → (react o g (draft_of s.session s.link) e).left ≡ left_of (is_up s) (is_established (react o g (draft_of s.session s.link) e).session.state) s.link.epoch
handled_left o g s e = comes_left o g (draft_of s.session s.link) e refl

pub second_left : (o : Message) (s : Side) → (draft_second o s).left ≡ left_of (is_up s) (is_established (draft_second o s).session.state) s.link.epoch
second_left o s = at (runs_out s.session)
  where
    at : (e : Option FsmEvent) → (expires o (draft_of (ticked s.session) s.link) e).left ≡ left_of (is_up s) (is_established (expires o (draft_of (ticked s.session) s.link) e).session.state) s.link.epoch
    at None = nothing_left (is_up s) s.link.epoch
    at (Some e) = comes_left o NoMessage (draft_of (ticked s.session) s.link) e refl

-- a sign of the peer
heard_epoch : (link : LinkView) (x : Sign) → (heard_by link x).epoch ≡ link.epoch
heard_epoch link (sign.Dial n) = at (nat_lt link.heard n)
  where
    at : (b : Bool) → (cond b (record { epoch = link.epoch; heard = n; heard_is_shut = false; phase = phase_at_dial link.phase (n == link.epoch) }) link).epoch ≡ link.epoch
    at true = refl
    at false = refl
heard_epoch link (sign.Shut n) = at (n == link.heard)
  where
    at : (b : Bool) → (cond b (record link { heard_is_shut = true }) link).epoch ≡ link.epoch
    at true = refl
    at false = refl

answer_off : (c : Bool) (d a : Draft) (b : Bool) (e : ℕ) → c ≡ false → a.left ≡ left_of b (is_established a.session.state) e → (cond c d a).left ≡ left_of b (is_established (cond c d a).session.state) e
answer_off true d a b e h k = absurd cc
answer_off false d a b e h k = k

answers_left : (o : Message) (s : SessionView) (link : LinkView) (x : Heard) → (sides.react_to_sign o (draft_of s link) x).left ≡ left_of (is_established s.state) (is_established (sides.react_to_sign o (draft_of s link) x).session.state) link.epoch
unfolding sides.react_to_sign
answers_left o s link heard.Quiet = nothing_left (is_established s.state) link.epoch
answers_left o s link heard.Joined = comes_left o NoMessage (draft_of s link) event.TcpCrAcked refl
answers_left o s link heard.Closed = comes_left o NoMessage (draft_of s link) event.TcpConnectionFails refl
answers_left o s link (heard.Offered number) = at s.state refl
  where
    none : (react o NoMessage (dials (draft_of s link)) event.TcpConnectionConfirmed).left ≡ None
    none = comes_quiet o NoMessage (dials (draft_of s link)) event.TcpConnectionConfirmed (confirmed (dials (draft_of s link)).session.state (dials (draft_of s link)).session refl) ∙ dials_left (draft_of s link)

    down : (st : State) → s.state ≡ st → is_established st ≡ false
        → (cond (is_connecting s.state) (react o NoMessage (dials (draft_of s link)) event.TcpConnectionConfirmed) (draft_of s link)).left
        ≡ left_of (is_established s.state) (is_established (cond (is_connecting s.state) (react o NoMessage (dials (draft_of s link)) event.TcpConnectionConfirmed) (draft_of s link)).session.state) link.epoch
    down st h off = quiet_left (is_established s.state) _ link.epoch _ (ap is_established h ∙ off) (dial_left (is_connecting s.state) (draft_of s link) (react o NoMessage (dials (draft_of s link)) event.TcpConnectionConfirmed) (draft_of s link) none refl)

    at : (st : State) → s.state ≡ st
        → (cond (is_connecting s.state) (react o NoMessage (dials (draft_of s link)) event.TcpConnectionConfirmed) (draft_of s link)).left
        ≡ left_of (is_established s.state) (is_established (cond (is_connecting s.state) (react o NoMessage (dials (draft_of s link)) event.TcpConnectionConfirmed) (draft_of s link)).session.state) link.epoch
    at Idle h = down Idle h refl
    at Connect h = down Connect h refl
    at Active h = down Active h refl
    at OpenSent h = down OpenSent h refl
    at OpenConfirm h = down OpenConfirm h refl
    at Established h = answer_off (is_connecting s.state) (react o NoMessage (dials (draft_of s link)) event.TcpConnectionConfirmed) (draft_of s link) (is_established s.state) link.epoch (ap is_connecting h) (nothing_left (is_established s.state) link.epoch)

pub signed_left : (o : Message) (s : Side) (x : Sign) → (draft_sign o s x).left ≡ left_of (is_up s) (is_established (draft_sign o s x).session.state) s.link.epoch
signed_left o s x =
    answers_left o s.session (heard_by s.link x) (meaning_of s.link x)
    ∙ ap (left_of (is_up s) (is_established (draft_sign o s x).session.state)) (heard_epoch s.link x)

-- a reset: the stop leaves, and the start leaves nothing more
started : (st : State) (s : SessionView) → s.state ≡ st → NoDown (on_event s event.ManualStart).actions
started st s h = grind arith

stopped_is : (o : Message) (s : Side) → is_up s ≡ true → s.session.state ≡ Established → is_established (draft_event o s event.ManualStop).session.state ≡ false
unfolding react
stopped_is o s up h =
    let row : on_event s.session event.ManualStop ≡ on_established s.session event.ManualStop = ap (λ st. on_state st s.session event.ManualStop) h in
    let none : NoDial (on_event s.session event.ManualStop).actions = subst (λ w. NoDial w.actions) (sym row) tt in
    let k = gone o NoMessage (record (draft_of s.session s.link) { session = (on_event s.session event.ManualStop).session }) (on_event s.session event.ManualStop).actions none in
    ap (λ w. is_established w.state) k.same ∙ ap (λ w. is_established w.session.state) row

established_is : (st : State) → is_established st ≡ true → st ≡ Established
established_is st h = grind arith

pub reset_left : (o : Message) (s : Side) → is_up s ≡ true → (draft_reset o s).left ≡ Some s.link.epoch
reset_left o s up =
    let m : Draft = draft_event o s event.ManualStop in
    let off = stopped_is o s up (established_is s.session.state up) in
    comes_quiet o NoMessage (draft_event o s event.ManualStop) event.ManualStart (started (draft_event o s event.ManualStop).session.state (draft_event o s event.ManualStop).session refl)
    ∙ (met_left o s event.ManualStop ∙ (ap (λ b. left_of b (is_established (draft_event o s event.ManualStop).session.state) s.link.epoch) up ∙ ap (λ b. left_of true b s.link.epoch) off))

-- where the session was not up, neither the stop nor the start leaves anything
reset_quiet : (o : Message) (s : Side) → is_up s ≡ false → (draft_reset o s).left ≡ None
reset_quiet o s down =
    comes_quiet o NoMessage (draft_event o s event.ManualStop) event.ManualStart (started (draft_event o s event.ManualStop).session.state (draft_event o s event.ManualStop).session refl)
    ∙ (met_left o s event.ManualStop ∙ ap (λ b. left_of b (is_established (draft_event o s event.ManualStop).session.state) s.link.epoch) down)

reset_of : (o : Message) (s : Side) (b : Bool) → is_up s ≡ b → (draft_reset o s).left ≡ left_of b false s.link.epoch
reset_of o s true h = reset_left o s h
reset_of o s false h = reset_quiet o s h

pub drafts_leave_established : DraftsLeaveEstablished
drafts_leave_established o s = record {
  met_by = met_left o s;
  reset_is = reset_of o s (is_up s) refl;
  second_is = second_left o s;
  signed_by = signed_left o s;
  handled_by = λ h e. handled_left o h s e;
}
