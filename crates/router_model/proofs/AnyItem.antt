-- Whatever a peer hands in is taken, and what waits is handled.
use Rattle.std.proofs.Common.{◌≡◌, ℕ, ◌==◌, ◌<◌, ◌+◌, Bool, true, false, cond, List, [], ◌∷◌, refl, ◌∙◌, arith, Option, None, Some}
use Rattle.std.specs.Prelude.{nat_lt, max}
use Rattle.std.proofs.lemmas.Bool.Decides.{nat_tests}
use Rattle.bgp_codec.specs.declared.message.Message.{Message}
use Rattle.link_epoch.specs.Ends.{LinkView, next_number, number_shut, heard_by, meaning_of}
use Rattle.link_epoch.specs.declared.link_end.Phase.{Phase}
use Rattle.link_epoch.specs.declared.link_end.Phase.TheVariants as phase
use Rattle.link_epoch.specs.declared.link_end.Sign.TheVariants as sign
use Rattle.link_epoch.specs.declared.link_end.Heard.{Heard}
use Rattle.link_epoch.specs.declared.link_end.Heard.TheVariants as heard
use Rattle.session_fsm.specs.Table.{SessionView, on_event}
use Rattle.session_fsm.specs.declared.state.State.{State}
use Rattle.session_fsm.specs.declared.event.FsmEvent.{FsmEvent}
use Rattle.session_fsm.specs.declared.event.FsmEvent.TheVariants as event
use Rattle.session_fsm.specs.declared.actions.Action.{Action}
use Rattle.session_fsm.specs.declared.actions.Action.TheVariants as action
use Rattle.outbox.specs.declared.item.What.{What}
use Rattle.outbox.specs.declared.item.What.TheVariants as item
use Rattle.router_model.specs.Settings.{Setting}
use Rattle.router_model.specs.Sides as sides
use Rattle.router_model.specs.Sides.{Side, Draft, draft_of, AtHand, NoMessage, HasFault, HasUpdate, apply_once, apply, apply_all, react, dials, shuts, fits, is_connecting, draft_sign}
use Rattle.router_model.specs.State.{open_of}
use Rattle.router_model.specs.Step.{overflows_taking}
use Rattle.router_model.specs.Calls.{Stamped}
use Rattle.run_model.specs.declared.stamps.TheConstants.{GREATEST_STAMP}
use Rattle.router_model.specs.Laws.{HasNumbers, AnyItemIsTaken, WhatWaitsIsHandled}
use Rattle.router_model.proofs.Leaving.{NoDial}

-- ---- actions without a dial pass no number

given : (g : AtHand) (a : Draft) → (sides.tells_fault a g).overflows ≡ a.overflows
given NoMessage a = refl
given (HasFault fault) a = refl
given (HasUpdate update) a = refl

shut : (a : Draft) (o : Option ℕ) → (shuts a o).overflows ≡ a.overflows
shut a None = refl
shut a (Some number) = refl

obeyed : (o : Message) (g : AtHand) (a : Draft) (xs : List Action) → NoDial xs → (apply_all o g a xs).overflows ≡ a.overflows
unfolding apply
obeyed o g a [] h = refl
obeyed o g a (action.Dial ∷ xs) h = absurd h
obeyed o g a (action.SendOpen ∷ xs) h = obeyed o g (apply_once o g a action.SendOpen) xs h
obeyed o g a (action.SendAlive ∷ xs) h = obeyed o g (apply_once o g a action.SendAlive) xs h
obeyed o g a (action.SendNotice code ∷ xs) h = obeyed o g (apply_once o g a (action.SendNotice code)) xs h
obeyed o g a (action.SendGiven ∷ xs) h = obeyed o g (apply_once o g a action.SendGiven) xs h ∙ given g a
obeyed o g a (action.HangUp ∷ xs) h = obeyed o g (apply_once o g a action.HangUp) xs h ∙ shut a (number_shut a.link)
obeyed o g a (action.Act ∷ xs) h = obeyed o g (apply_once o g a action.Act) xs h
obeyed o g a (action.Up ∷ xs) h = obeyed o g (apply_once o g a action.Up) xs h
obeyed o g a (action.Down ∷ xs) h = obeyed o g (apply_once o g a action.Down) xs h

came : (o : Message) (g : AtHand) (a : Draft) (e : FsmEvent) → NoDial (on_event a.session e).actions → (react o g a e).overflows ≡ a.overflows
unfolding react
came o g a e h = obeyed o g (record a { session = (on_event a.session e).session }) (on_event a.session e).actions h

-- ---- no sign of the peer makes the session dial by itself

acked : (st : State) (s : SessionView) → s.state ≡ st → NoDial (on_event s event.TcpCrAcked).actions
acked st s h = grind arith

confirmed : (st : State) (s : SessionView) → s.state ≡ st → NoDial (on_event s event.TcpConnectionConfirmed).actions
confirmed st s h = grind arith

failed : (st : State) (s : SessionView) → s.state ≡ st → NoDial (on_event s event.TcpConnectionFails).actions
failed st s h = grind arith

-- ---- a sign is answered by a number that fits

dial_fits : (a : Draft) (b : Bool) → fits (next_number a.link) ≡ b → b ≡ true → (dials a).overflows ≡ a.overflows
dial_fits a true h t = rw h refl
dial_fits a false h t = absurd cc

either : (c : Bool) (d e : Draft) (b : Bool) → d.overflows ≡ b → e.overflows ≡ b → (cond c d e).overflows ≡ b
either true d e b h k = h
either false d e b h k = k

-- the number that an offer is answered by
Answerable : LinkView → Heard → Type 0
Answerable link heard.Quiet = Unit {0}
Answerable link heard.Joined = Unit {0}
Answerable link (heard.Offered number) = fits (next_number link) ≡ true
Answerable link heard.Closed = Unit {0}

answered : (o : Message) (a : Draft) (x : Heard) → Answerable a.link x → (sides.react_to_sign o a x).overflows ≡ a.overflows
unfolding sides.react_to_sign Answerable
answered o a heard.Quiet h = refl
answered o a heard.Joined h = came o NoMessage a event.TcpCrAcked (acked a.session.state a.session refl)
answered o a (heard.Offered number) h =
    let d : (dials a).overflows ≡ a.overflows = dial_fits a (fits (next_number a.link)) refl h in
    either (is_connecting a.session.state) (react o NoMessage (dials a) event.TcpConnectionConfirmed) a a.overflows
    (came o NoMessage (dials a) event.TcpConnectionConfirmed (confirmed (dials a).session.state (dials a).session refl) ∙ d) refl
answered o a heard.Closed h = came o NoMessage a event.TcpConnectionFails (failed a.session.state a.session refl)

-- an offer has a number above the own and all heard: it becomes the greatest heard, and the answer is that number
offer_fits : (link : LinkView) (e : ℕ) → fits e ≡ true → Answerable (heard_by link (sign.Dial e)) (meaning_of link (sign.Dial e))
unfolding Answerable
offer_fits link e fit = at (nat_lt link.heard e) (nat_lt link.epoch e) link.phase (e == link.epoch) refl refl refl refl
  where
    at : (a b : Bool) (p : Phase) (o : Bool) → nat_lt link.heard e ≡ a → nat_lt link.epoch e ≡ b → link.phase ≡ p → (e == link.epoch) ≡ o
        → Answerable (heard_by link (sign.Dial e)) (meaning_of link (sign.Dial e))
    at false b p o ha hb hp ho = rw ha tt
    at true true phase.Shut o ha hb hp ho = rw (ha, hp, hb, hb) fit
    at true false phase.Shut o ha hb hp ho = rw (ha, hp, hb) tt
    at true b phase.Offered true ha hb hp ho = rw (ha, hp, ho) tt
    at true true phase.Offered false ha hb hp ho = rw (ha, hp, ho, hb, hb) fit
    at true false phase.Offered false ha hb hp ho = rw (ha, hp, ho, hb) tt
    at true b phase.Joined o ha hb hp ho = rw (ha, hp) tt

dial_taken : (o : Message) (s : Side) (e : ℕ) → fits e ≡ true → (draft_sign o s (sign.Dial e)).overflows ≡ false
dial_taken o s e fit = answered o (draft_of s.session (heard_by s.link (sign.Dial e))) (meaning_of s.link (sign.Dial e)) (offer_fits s.link e fit)

taken_fits : (g : Setting) (u v : ℕ) (x : Stamped) (i : What) → HasNumbers i → overflows_taking g u x.router v i ≡ false
taken_fits g u v x (item.Dial e) h = dial_taken (open_of g.net u) (x.router.sides v) e h
taken_fits g u v x (item.Piece e octets) h = refl
taken_fits g u v x (item.Mark e s) h = refl
taken_fits g u v x (item.Shut e) h = refl

-- ---- the two calls

in_time : (a limit : ℕ) → a < limit → nat_lt limit (a + 1) ≡ false
in_time a limit h = grind (arith, nat_tests)

pub any_item_is_taken : AnyItemIsTaken
any_item_is_taken g u v stamp x i link numbers free left = rw (link, free, in_time (max x.stamp stamp) GREATEST_STAMP left, taken_fits g u v x i numbers) refl

pub what_waits_is_handled : WhatWaitsIsHandled
what_waits_is_handled g u v x link waits left = rw (link, waits, in_time x.stamp GREATEST_STAMP left) refl
