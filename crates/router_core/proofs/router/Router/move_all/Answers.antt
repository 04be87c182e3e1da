use Rattle.std.proofs.Common.{◌≡◌, ◌<◌, ◌≤◌, ◌+◌, ◌∙◌, ap, sym, subst, false, arith, length, get_or}
use Rattle.snap_marker.specs.Parts.{snapshots_of}
use Rattle.snap_marker.specs.Recordings.{closed}
use Rattle.bgp_codec.specs.declared.message.Message.{Message}
use Rattle.router_model.specs.Sides.{Side, NoMessage, carried}
use Rattle.router_model.specs.Step.{close_at}
use Rattle.router_side.specs.declared.draft.SideDraft.{SideDraft}
use Rattle.router_side.specs.SideOf.{side}
use Rattle.router_core.specs.declared.peers.Peer.{Peer}
use Rattle.router_core.specs.ToAll.{draft_by, IsReady, MovesSide}
use Rattle.router_core.proofs.Marking.{Passed, passed_next, passed_all}
use Rattle.router_core.proofs.Moving.{ready_here, ready_long, passed_here, passed_long, fits_here, left_all, closed_next, rest_then}
use Rattle.router_core.proofs.router.Router.move_all.Goals as goal

pub move_side-requires-clause-below : goal.move_side-requires-clause-below
move_side-requires-clause-below c =
    let l = c.loop-peer_at in
    let x = c.args.self.now in
    let w = c.args.event in
    let D = draft_by w x.own_open in
    let f : Side → Side = λ s. carried NoMessage s (D s) in
    let long = ready_long x.own_open D x.peers c.args.made.now c.requires.ready in
    let less : l.peer_at < length c.args.made.now = omega (arith, c.loop-peer_at-test.true, l.auto.peer_at-end) in
    let here : l.peer_at < length x.peers = omega (arith, less, long) in
    let same = passed_long f l.peer_at x.peers l.self.peers l.invariant.peers in
    omega (arith, here, same)

pub move_side-requires-clause-ready : goal.move_side-requires-clause-ready
move_side-requires-clause-ready c = λ d.
    let l = c.loop-peer_at in
    let x = c.args.self.now in
    let w = c.args.event in
    let D = draft_by w x.own_open in
    let f : Side → Side = λ s. carried NoMessage s (D s) in
    let long = ready_long x.own_open D x.peers c.args.made.now c.requires.ready in
    let less : l.peer_at < length c.args.made.now = omega (arith, c.loop-peer_at-test.true, l.auto.peer_at-end) in
    let here : l.peer_at < length x.peers = omega (arith, less, long) in
    let a = c.index-made-peer_at.result in
    let first = ready_here x.own_open D l.peer_at x.peers c.args.made.now d a c.requires.ready less in
    let second = subst (λ (m : SideDraft). IsReady x.own_open D (get_or x.peers l.peer_at d) m) (sym c.index-made-peer_at.is) first in
    let third = subst (λ (p : Peer). IsReady x.own_open D p a) (sym (passed_here f l.peer_at x.peers l.self.peers d l.invariant.peers)) second in
    subst (λ (o : Message). IsReady o (draft_by w o) (get_or l.self.peers l.peer_at d) a) (sym l.invariant.rest.own_open) third

pub move_side-requires-clause-fits : goal.move_side-requires-clause-fits
move_side-requires-clause-fits c = λ d.
    let l = c.loop-peer_at in
    let x = c.args.self.now in
    let w = c.args.event in
    let D = draft_by w x.own_open in
    let f : Side → Side = λ s. carried NoMessage s (D s) in
    let long = ready_long x.own_open D x.peers c.args.made.now c.requires.ready in
    let less : l.peer_at < length c.args.made.now = omega (arith, c.loop-peer_at-test.true, l.auto.peer_at-end) in
    let here : l.peer_at < length x.peers = omega (arith, less, long) in
    let first = fits_here D x.peers l.peer_at d c.requires.fits here in
    let second = ap (λ (p : Peer). (D (side p.side)).overflows) (passed_here f l.peer_at x.peers l.self.peers d l.invariant.peers) ∙ first in
    subst (λ (o : Message). (draft_by w o (side (get_or l.self.peers l.peer_at d).side)).overflows ≡ false) (sym l.invariant.rest.own_open) second

pub loop-peer_at-preserved : goal.loop-peer_at-preserved
loop-peer_at-preserved c =
    let l = c.loop-peer_at in
    let x = c.args.self.now in
    let w = c.args.event in
    let D = draft_by w x.own_open in
    let f : Side → Side = λ s. carried NoMessage s (D s) in
    let long = ready_long x.own_open D x.peers c.args.made.now c.requires.ready in
    let less : l.peer_at < length c.args.made.now = omega (arith, c.loop-peer_at-test.true, l.auto.peer_at-end) in
    let here : l.peer_at < length x.peers = omega (arith, less, long) in
    let y = c.move_side.new.self in
    let m = subst (λ (o : Message). MovesSide l.self l.peer_at (draft_by w o) y) l.invariant.rest.own_open c.move_side.ensures in
    let d = m.peer in
    let same = passed_long f l.peer_at x.peers l.self.peers l.invariant.peers in
    let now : l.peer_at < length l.self.peers = omega (arith, here, same) in
    record {
      peers = subst (Passed f (l.peer_at + 1) x.peers) (sym m.peers) (passed_next f l.peer_at x.peers l.self.peers d m.peer l.invariant.peers now (m.number d) (m.moved d));
      marks =
          closed_next D l.peer_at x.peers d (snapshots_of x.marks) (snapshots_of l.self.marks) (snapshots_of y.marks) here l.invariant.marks
          (subst (λ (p : Peer). snapshots_of y.marks ≡ closed (close_at p.number (D (side p.side)).left) (snapshots_of l.self.marks)) (passed_here f l.peer_at x.peers l.self.peers d l.invariant.peers) (m.marks d));
      rest = rest_then x l.self y l.invariant.rest m.rest;
    }

pub returns : goal.returns
returns c =
    let l = c.loop-peer_at in
    let x = c.args.self.now in
    let w = c.args.event in
    let D = draft_by w x.own_open in
    let f : Side → Side = λ s. carried NoMessage s (D s) in
    let long = ready_long x.own_open D x.peers c.args.made.now c.requires.ready in
    let all : length x.peers ≤ l.peer_at = omega (arith, c.loop-peer_at-test.false, l.auto.peer_at-end, long) in
    let same = passed_long f l.peer_at x.peers l.self.peers l.invariant.peers in
    record {
      peers = passed_all f l.peer_at x.peers l.self.peers l.invariant.peers (omega (arith, all, same));
      marks = l.invariant.marks ∙ ap (λ o. closed o (snapshots_of x.marks)) (left_all D l.peer_at x.peers all);
      rest = l.invariant.rest;
    }
