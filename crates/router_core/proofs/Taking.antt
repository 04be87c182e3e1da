-- An item that is taken, as a step of the router.
use Rattle.std.proofs.Common.{◌≡◌, ℕ, ◌+◌, ◌==◌, ◌&&◌, ◌++◌, Bool, true, false, not, cond, List, None, Some, refl, ap, sym, ◌∙◌, subst, get_or}
use Rattle.std.specs.Prelude.{nat_lt, max, Result, Ok, Err, MatchResult}
use Rattle.bgp_codec.specs.declared.message.Message.{Message}
use Rattle.link_epoch.specs.Ends.{LinkView, heard_by, meaning_of_shut}
use Rattle.link_epoch.specs.declared.link_end.Phase.{Phase}
use Rattle.link_epoch.specs.declared.link_end.Phase.TheVariants.{Shut, Offered, Joined}
use Rattle.session_fsm.specs.Table.{SessionView}
use Rattle.session_fsm.specs.declared.state.State.{State}
use Rattle.session_fsm.specs.declared.state.State.TheVariants.{Idle, Connect, Active, OpenSent, OpenConfirm, Established}
use Rattle.session_fsm.specs.declared.event.FsmEvent.TheVariants as event
use Rattle.bgp_framing.specs.Held.{is_waiting}
use Rattle.link_epoch.specs.declared.link_end.Sign.TheVariants as sign
use Rattle.run_model.specs.Network.{takes}
use Rattle.outbox.specs.declared.item.What.{What}
use Rattle.outbox.specs.declared.item.What.TheVariants as item
use Rattle.router_core.specs.declared.peers.Peer.{Peer}
use Rattle.router_model.specs.declared.refusal.RouterError.{RouterError}
use Rattle.router_model.specs.declared.refusal.RouterError.TheVariants as error
use Rattle.router_model.specs.declared.refusal.Stepped.{Stepped}
use Rattle.router_model.specs.declared.refusal.Stepped.TheVariants as stepped
use Rattle.router_model.specs.Sides.{Side, Draft, NoMessage, draft_sign, fed, uses, react_to_sign, react, apply, draft_of}
use Rattle.router_side.specs.SideOf.{side}
use Rattle.router_model.specs.State.{open_of}
use Rattle.router_model.specs.Step.{moved, taken}
use Rattle.router_model.specs.Calls.{Stamped, Take, Gives, answer, judged, unless, first_of, overflows_at}
use Rattle.run_model.specs.declared.stamps.TheConstants.{GREATEST_STAMP}
use Rattle.router_side.specs.SideOf.{side_opening}
use Rattle.router_model.specs.Settings.{Setting}
use Rattle.router_core.specs.Views.{RouterView, sides_of, listed, IsAt, config_of, plain_of, Ends}
use Rattle.router_core.proofs.PeerLemmas.{side_here}
use Rattle.router_core.proofs.Carrying.{Changes, IsOf, with_peer, becomes, one_step, drafted, is_linked}

-- ---- a Shut dials nothing

closed_fits : (o : Message) (x : SessionView) (l : LinkView) (c : State) (h : Phase) → x.state ≡ c → l.phase ≡ h → (react o NoMessage (draft_of x l) event.TcpConnectionFails).overflows ≡ false
unfolding react apply
closed_fits o x l Idle h e p = rw e refl
closed_fits o x l Connect Shut e p = rw (e, p) refl
closed_fits o x l Connect Offered e p = rw (e, p) refl
closed_fits o x l Connect Joined e p = rw (e, p) refl
closed_fits o x l Active Shut e p = rw (e, p) refl
closed_fits o x l Active Offered e p = rw (e, p) refl
closed_fits o x l Active Joined e p = rw (e, p) refl
closed_fits o x l OpenSent Shut e p = rw (e, p) refl
closed_fits o x l OpenSent Offered e p = rw (e, p) refl
closed_fits o x l OpenSent Joined e p = rw (e, p) refl
closed_fits o x l OpenConfirm Shut e p = rw (e, p) refl
closed_fits o x l OpenConfirm Offered e p = rw (e, p) refl
closed_fits o x l OpenConfirm Joined e p = rw (e, p) refl
closed_fits o x l Established Shut e p = rw (e, p) refl
closed_fits o x l Established Offered e p = rw (e, p) refl
closed_fits o x l Established Joined e p = rw (e, p) refl

shut_by : (o : Message) (x : SessionView) (l : LinkView) (h : Phase) (b : Bool) → (react_to_sign o (draft_of x l) (meaning_of_shut h b)).overflows ≡ false
unfolding react_to_sign
shut_by o x l Shut b = refl
shut_by o x l Offered b = refl
shut_by o x l Joined true = closed_fits o x l x.state l.phase refl refl
shut_by o x l Joined false = refl

pub shut_fits : (o : Message) (s : Side) (e : ℕ) → (draft_sign o s (sign.Shut e)).overflows ≡ false
shut_fits o s e = shut_by o s.session (heard_by s.link (sign.Shut e)) s.link.phase ((e == s.link.heard) && (e == s.link.epoch))

-- ---- octets

fed_by : (b : Bool) (s : Side) (octets : List ℕ) → cond b (record s { held = octets }) s ≡ record s { held = cond b octets s.held }
fed_by true s octets = refl
fed_by false s octets = refl

pub fed_is : (s : Side) (e : ℕ) (octets : List ℕ) → fed s e octets ≡ record s { held = cond (uses s.link e) (s.held ++ octets) s.held }
fed_is s e octets = fed_by (uses s.link e) s (s.held ++ octets)

pub stands_at : (r : RouterView) (v i : ℕ) (p : Peer) → IsAt r.peers v i → p ≡ get_or r.peers i p → sides_of r v ≡ side p.side
stands_at r v i p at here = side_here (side_opening (config_of r.net) r.net.settings.width) r.peers v i p at ∙ ap (λ (w : Peer). side w.side) (sym here)

module _ (g : Setting) (r : RouterView) (v i : ℕ) (p : Peer) (of : IsOf g r) (at : IsAt r.peers v i) (here : p ≡ get_or r.peers i p) (l : listed v r.peers ≡ true)
    (stamp : ℕ) where
  stands : sides_of r v ≡ side p.side
  stands = stands_at r v i p at here

  abbrev pub next : ℕ
  next = max r.stamp stamp + 1

  abbrev Takes : What → Result Stepped RouterError → Stamped → Bool → Bool → Type 0
  Takes what res y t b =
      Gives g r.number res
      (judged (first_of (unless t error.NoSuchPeer) (unless (not b) (error.Held v))) (Some (takes v what)) (nat_lt GREATEST_STAMP next) (overflows_at g r.number (plain_of r).router (Some (takes v what))))
      (plain_of r) (Take v stamp what) y

  take_is : (what : What) (res : Result Stepped RouterError) (y : Stamped) (b : Bool) → is_waiting (side p.side).held ≡ b → Takes what res y true b
      → Gives g r.number res (answer g r.number (plain_of r) (Take v stamp what)) (plain_of r) (Take v stamp what) y
  take_is what res y b is h =
      subst (λ (t : Bool). Takes what res y t (is_waiting (sides_of r v).held)) (sym (is_linked g r v true of l))
      (subst (λ (w : Bool). Takes what res y true w) (sym (ap (λ (s : Side). is_waiting s.held) stands ∙ is)) h)

  pub takes_held : (what : What) → is_waiting (side p.side).held ≡ true → Gives g r.number (Err (error.Held v)) (answer g r.number (plain_of r) (Take v stamp what)) (plain_of r) (Take v stamp what) (plain_of r)
  takes_held what h = take_is what (Err (error.Held v)) (plain_of r) true h (refl, refl)

  module _ (y : Stamped) (a : Draft) (res : Result Stepped RouterError) (e : ℕ) (free : is_waiting (side p.side).held ≡ false) where
    pub takes_dial : a ≡ draft_sign r.own_open (side p.side) (sign.Dial e)
        → Ends (nat_lt GREATEST_STAMP next) a.overflows res (plain_of r) (record { router = moved (plain_of r).router v NoMessage a; stamp = next }) y
        → Gives g r.number res (answer g r.number (plain_of r) (Take v stamp (item.Dial e))) (plain_of r) (Take v stamp (item.Dial e)) y
    takes_dial made ends =
        take_is (item.Dial e) res y false free
        (one_step g r y v NoMessage a (draft_sign (open_of g.net r.number) (sides_of r v) (sign.Dial e)) next (Take v stamp (item.Dial e)) (takes v (item.Dial e)) res (λ w. w.overflows)
        (drafted g r v i p (λ o s. draft_sign o s (sign.Dial e)) a of at here made) refl ends)

    pub takes_shut : a ≡ draft_sign r.own_open (side p.side) (sign.Shut e)
        → Ends (nat_lt GREATEST_STAMP next) false res (plain_of r) (record { router = moved (plain_of r).router v NoMessage a; stamp = next }) y
        → Gives g r.number res (answer g r.number (plain_of r) (Take v stamp (item.Shut e))) (plain_of r) (Take v stamp (item.Shut e)) y
    takes_shut made ends =
        take_is (item.Shut e) res y false free
        (one_step g r y v NoMessage a (draft_sign (open_of g.net r.number) (sides_of r v) (sign.Shut e)) next (Take v stamp (item.Shut e)) (takes v (item.Shut e)) res (λ w. false)
        (drafted g r v i p (λ o s. draft_sign o s (sign.Shut e)) a of at here made) refl ends)

  late_is : (what : What) (res : Result Stepped RouterError) (y : Stamped) (late : Bool) → is_waiting (side p.side).held ≡ false → nat_lt GREATEST_STAMP next ≡ late
      → Gives g r.number res (judged None (Some (takes v what)) late (overflows_at g r.number (plain_of r).router (Some (takes v what)))) (plain_of r) (Take v stamp what) y
      → Gives g r.number res (answer g r.number (plain_of r) (Take v stamp what)) (plain_of r) (Take v stamp what) y
  late_is what res y late free is h =
      take_is what res y false free
      (subst (λ (b : Bool). Gives g r.number res (judged None (Some (takes v what)) b (overflows_at g r.number (plain_of r).router (Some (takes v what)))) (plain_of r) (Take v stamp what) y) (sym is) h)

  pub takes_late : (what : What) → is_waiting (side p.side).held ≡ false → nat_lt GREATEST_STAMP next ≡ true
      → Gives g r.number (Err error.StampEnd) (answer g r.number (plain_of r) (Take v stamp what)) (plain_of r) (Take v stamp what) (plain_of r)
  takes_late what free late = late_is what (Err error.StampEnd) (plain_of r) true free late (refl, refl)

  pub takes_piece : (e : ℕ) (octets : List ℕ) (q : Peer) → Changes r v i p q → side q.side ≡ fed (side p.side) e octets → is_waiting (side p.side).held ≡ false
      → nat_lt GREATEST_STAMP next ≡ false
      → Gives g r.number (Ok stepped.Did) (answer g r.number (plain_of r) (Take v stamp (item.Piece e octets))) (plain_of r) (Take v stamp (item.Piece e octets)) (plain_of (with_peer r i q r.tables r.marks next))
  takes_piece e octets q c is free late =
      late_is (item.Piece e octets) (Ok stepped.Did) (plain_of (with_peer r i q r.tables r.marks next)) false free late (refl, becomes r v i p q c next (λ s. fed s e octets) is)

  pub refuses_piece : (e : ℕ) (octets : List ℕ) → is_waiting (side p.side).held ≡ false → nat_lt GREATEST_STAMP next ≡ false
      → Gives g r.number (Err error.Memory) (answer g r.number (plain_of r) (Take v stamp (item.Piece e octets))) (plain_of r) (Take v stamp (item.Piece e octets)) (plain_of r)
  refuses_piece e octets free early = late_is (item.Piece e octets) (Err error.Memory) (plain_of r) false free early (refl, refl)

  pub takes_mark : (res : Result Stepped RouterError) (y : Stamped) (e n : ℕ) → is_waiting (side p.side).held ≡ false → nat_lt GREATEST_STAMP next ≡ false
      → MatchResult res (λ did. (did ≡ stepped.Did) × (y ≡ record { router = taken g r.number (plain_of r).router v (item.Mark e n); stamp = next })) (λ why. (why ≡ error.Memory) × (y ≡ plain_of r))
      → Gives g r.number res (answer g r.number (plain_of r) (Take v stamp (item.Mark e n))) (plain_of r) (Take v stamp (item.Mark e n)) y
  takes_mark res y e n free late h = late_is (item.Mark e n) res y false free late h
