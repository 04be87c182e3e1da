use Rattle.std.proofs.Common.{◌≡◌, ◌<◌, ◌∙◌, ap, sym, refl, subst, false, length, get_or}
use Rattle.snap_marker.specs.Parts.{snapshots_of}
use Rattle.snap_marker.specs.Recordings.{closed}
use Rattle.router_model.specs.Sides.{Draft, NoMessage, carried}
use Rattle.router_model.specs.Step.{close_at}
use Rattle.router_side.specs.Drafts.{draft}
use Rattle.router_side.specs.SideOf.{side}
use Rattle.router_core.specs.declared.peers.Peer.{Peer}
use Rattle.router_core.specs.Views.{view_of, RouterView, IsAt}
use Rattle.router_core.specs.Following.{standing}
use Rattle.router_core.specs.ToAll.{draft_by, IsReady, MovesSide}
use Rattle.router_core.proofs.Places.{listed_here}
use Rattle.router_core.proofs.Following.{leaves}
use Rattle.router_core.proofs.Carrying.{Changes, with_peer, stays, tracks_moved, keeps_here}
use Rattle.router_core.proofs.Recording.{rises}
use Rattle.router_core.proofs.Moving.{at_here, get_same, event_keeps}
use Rattle.router_core.proofs.router.Router.move_side.Goals as goal

pub carry-requires-clause-stands : goal.carry-requires-clause-stands
carry-requires-clause-stands c =
    let r = view_of c.self.inside in
    let below = subst (λ (x : RouterView). c.args.peer_at < length x.peers) (sym c.self.view_is) c.requires.below in
    listed_here r c.args.peer_at c.index.result.now c.self.invariant below c.index.ensures

pub invariant_of-self : goal.invariant_of-self
invariant_of-self c =
    let r = view_of c.self.inside in
    let at = c.args.peer_at in
    let below = subst (λ (x : RouterView). at < length x.peers) (sym c.self.view_is) c.requires.below in
    let i = c.index.result.now in
    let v = i.number in
    let place = subst (λ (w : Peer). IsAt r.peers w.number at) (sym c.index.ensures) (at_here r.peers at i (rises r.net c.self.invariant.network r.number r.peers c.self.invariant.numbers) below) in
    let p = c.index_mut.result.now in
    let q : Peer = record { number = p.number; side = c.carry.new.side } in
    let ch : Changes r v at p q = record { place = place; here = c.index_mut.ensures.value; number = refl } in
    let D = draft_by c.args.event r.own_open in
    let a = draft r.own_open NoMessage c.args.made.now in
    let ready = subst (λ (x : RouterView). (d : Peer) → IsReady x.own_open (draft_by c.args.event x.own_open) (get_or x.peers at d) c.args.made.now) (sym c.self.view_is) c.requires.ready in
    let made : a ≡ D (side p.side) = (ready p).0 ∙ ap (λ (w : Peer). D (side w.side)) (sym c.index_mut.ensures.value) in
    let fits = subst (λ (x : RouterView). (d : Peer) → (draft_by c.args.event x.own_open (side (get_or x.peers at d).side)).overflows ≡ false) (sym c.self.view_is) c.requires.fits in
    let fit = ap (λ (w : Peer). (D (side w.side)).overflows) c.index_mut.ensures.value ∙ fits p in
    let fresh = keeps_here r v at p place c.index_mut.ensures.value c.self.invariant a (D (side p.side)) made (λ f. event_keeps c.sessions_keep_fresh.ensures c.args.event r.own_open (side p.side) f fit) in
    stays r v at p q ch c.carry.new.tables c.close.new.marks r.stamp c.self.invariant c.self.invariant.stamp
    (tracks_moved r v at p q ch c.self.invariant a c.carry.new.tables fresh c.carry.ensures.side c.carry.ensures.tables) (record { over = c.close.ensures.over; router = c.close.ensures.router })

pub returns : goal.returns
returns c =
    let r = view_of c.self.inside in
    let at = c.args.peer_at in
    let below = subst (λ (x : RouterView). at < length x.peers) (sym c.self.view_is) c.requires.below in
    let i = c.index.result.now in
    let v = i.number in
    let place = subst (λ (w : Peer). IsAt r.peers w.number at) (sym c.index.ensures) (at_here r.peers at i (rises r.net c.self.invariant.network r.number r.peers c.self.invariant.numbers) below) in
    let p = c.index_mut.result.now in
    let q : Peer = record { number = p.number; side = c.carry.new.side } in
    let ch : Changes r v at p q = record { place = place; here = c.index_mut.ensures.value; number = refl } in
    let D = draft_by c.args.event r.own_open in
    let a = draft r.own_open NoMessage c.args.made.now in
    let ready = subst (λ (x : RouterView). (d : Peer) → IsReady x.own_open (draft_by c.args.event x.own_open) (get_or x.peers at d) c.args.made.now) (sym c.self.view_is) c.requires.ready in
    let made : a ≡ D (side p.side) = (ready p).0 ∙ ap (λ (w : Peer). D (side w.side)) (sym c.index_mut.ensures.value) in
    let on = leaves r.tables c.carry.new.tables v (standing (side p.side)) (standing (side c.carry.new.side)) c.carry.ensures.tables in
    let one : i ≡ p = c.index.ensures ∙ get_same r.peers at i p below ∙ sym c.index_mut.ensures.value in
    subst (λ (x : RouterView). MovesSide x at (draft_by c.args.event x.own_open) (with_peer r at q c.carry.new.tables c.close.new.marks r.stamp)) c.self.view_is (record {
      peer = q;
      peers = refl;
      number = λ d. ap (λ (w : Peer). w.number) (c.index_mut.ensures.value ∙ get_same r.peers at p d below);
      moved = λ d.
          c.carry.ensures.side ∙ ap (λ (k : Draft). carried NoMessage (side p.side) k) made
          ∙ ap (λ (w : Peer). carried NoMessage (side w.side) (D (side w.side))) (c.index_mut.ensures.value ∙ get_same r.peers at p d below);
      marks = λ d.
          c.close.ensures.closed ∙ ap (λ (k : Draft). closed (close_at v k.left) (snapshots_of r.marks)) made
          ∙ ap (λ (w : Peer). closed (close_at w.number (D (side p.side)).left) (snapshots_of r.marks)) one
          ∙ ap (λ (w : Peer). closed (close_at w.number (D (side w.side)).left) (snapshots_of r.marks)) (c.index_mut.ensures.value ∙ get_same r.peers at p d below);
      rest = record { net = refl; number = refl; own_open = refl; kept = on.kept; originated = on.originated; stamp = refl };
    })
