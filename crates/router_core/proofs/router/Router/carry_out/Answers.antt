use Rattle.std.proofs.Common.{◌≡◌, ◌∙◌, ◌≤◌, ap, sym, refl, subst, false, arith}
use Rattle.std.specs.Prelude.{nat_lt, Some, Ok, Err}
use Rattle.std.proofs.lemmas.Bool.Decides.{nat_tests}
use Rattle.std.proofs.lemmas.Result.{err_from_is_err_and}
use Rattle.router_model.specs.declared.refusal.RouterError.TheVariants.{Memory}
use Rattle.router_model.specs.declared.refusal.Stepped.TheVariants.{Did}
use Rattle.router_model.specs.Sides.{Side, NoMessage, carried}
use Rattle.router_model.specs.Step.{moved}
use Rattle.run_model.specs.declared.stamps.TheConstants.{GREATEST_STAMP}
use Rattle.snap_marker.specs.Parts.{snapshots_of}
use Rattle.router_side.specs.Drafts.{draft}
use Rattle.router_side.specs.Freshness.{KeepsFresh}
use Rattle.router_side.specs.SideOf.{side}
use Rattle.router_core.specs.declared.peers.Peer.{Peer}
use Rattle.router_core.specs.Views.{view_of, RouterView, IsFound, Carries, sides_of, plain_of}
use Rattle.router_core.specs.Following.{Followed, standing}
use Rattle.router_core.proofs.Places.{told_here, found_stands}
use Rattle.router_core.proofs.Carrying.{Changes, with_peer, stays, kept, moves, tracks_alike, tracks_moved, records_same, nothing_seen, ends_did, ends_memory}
use Rattle.router_core.proofs.Following.{leaves}
use Rattle.router_core.proofs.router.Router.carry_out.Goals as goal

pub reserve-requires-clause-own : goal.reserve-requires-clause-own
reserve-requires-clause-own c = c.self.invariant.sayable c.index_mut.result.now.side.width

-- the caller has no room
pub returns-in_err-room-clause-carries : goal.returns-in_err-room-clause-carries
returns-in_err-room-clause-carries c =
    let p = err_from_is_err_and c.from_residual.result c.from_residual.ensures.1 in
    let x = c.args.self.now in
    let early : nat_lt GREATEST_STAMP c.args.stamp ≡ false = grind (arith, nat_tests, c.if-stamp-gt-GREATEST_STAMP.false) in
    rw (p.1, p.2)
    (ends_memory (nat_lt GREATEST_STAMP c.args.stamp) c.args.made.now.overflows (plain_of x) (record { router = moved (plain_of x).router c.args.peer NoMessage (draft x.own_open NoMessage c.args.made.now); stamp = c.args.stamp })
    (plain_of x) early c.if-overflows.false refl)

-- memory was wanting: the peer is as it was
pub invariant_of-self : goal.invariant_of-self
invariant_of-self c =
    let r = view_of c.self.inside in
    let v = c.args.peer in
    let p = c.index_mut.result.now in
    let q : Peer = record { number = p.number; side = c.reserve.new.self } in
    let place = subst (λ (x : RouterView). IsFound x.peers v c.args.peer_at) (sym c.self.view_is) c.requires.place in
    let ch : Changes r v c.args.peer_at p q = record { place = place.2; here = c.index_mut.ensures.value; number = refl } in
    let same = c.reserve.ensures.side in
    let tracks = tracks_alike r v c.args.peer_at p q ch c.self.invariant (ap (λ (s : Side). s.session) same) (ap (λ (s : Side). s.link) same) (ap (λ (s : Side). s.acted) same) (ap (λ (s : Side). s.sent) same) (ap (λ (s : Side). s.width) same) in
    stays r v c.args.peer_at p q ch r.tables r.marks r.stamp c.self.invariant c.self.invariant.stamp tracks (records_same r)

pub returns-then-is_err-clause-carries : goal.returns-then-is_err-clause-carries
returns-then-is_err-clause-carries c =
    let r = view_of c.self.inside in
    let v = c.args.peer in
    let p = c.index_mut.result.now in
    let q : Peer = record { number = p.number; side = c.reserve.new.self } in
    let place = subst (λ (x : RouterView). IsFound x.peers v c.args.peer_at) (sym c.self.view_is) c.requires.place in
    let ch : Changes r v c.args.peer_at p q = record { place = place.2; here = c.index_mut.ensures.value; number = refl } in
    let early : nat_lt GREATEST_STAMP c.args.stamp ≡ false = grind (arith, nat_tests, c.if-stamp-gt-GREATEST_STAMP.false) in
    subst (λ (x : RouterView). Carries (Err Memory) x v NoMessage (draft x.own_open NoMessage c.args.made.now) c.args.made.now.overflows c.args.stamp (with_peer r c.args.peer_at q r.tables r.marks r.stamp)) c.self.view_is
    (ends_memory (nat_lt GREATEST_STAMP c.args.stamp) c.args.made.now.overflows (plain_of r) (record { router = moved (plain_of r).router v NoMessage (draft r.own_open NoMessage c.args.made.now); stamp = c.args.stamp })
    (plain_of (with_peer r c.args.peer_at q r.tables r.marks r.stamp)) early c.if-overflows.false (kept r v c.args.peer_at p q ch r.marks c.reserve.ensures.side refl))

-- it is carried out
pub carry-requires-clause-stands : goal.carry-requires-clause-stands
carry-requires-clause-stands c =
    let r = view_of c.self.inside in
    let place = subst (λ (x : RouterView). IsFound x.peers c.args.peer c.args.peer_at) (sym c.self.view_is) c.requires.place in
    told_here r c.args.peer c.args.peer_at c.self.invariant (found_stands r c.args.peer (Some c.args.peer_at) c.self.invariant place)

pub invariant_of-self-2 : goal.invariant_of-self-2
invariant_of-self-2 c =
    let r = view_of c.self.inside in
    let v = c.args.peer in
    let p = c.index_mut.result.now in
    let q : Peer = record { number = p.number; side = c.carry.new.side } in
    let place = subst (λ (x : RouterView). IsFound x.peers v c.args.peer_at) (sym c.self.view_is) c.requires.place in
    let ch : Changes r v c.args.peer_at p q = record { place = place.2; here = c.index_mut.ensures.value; number = refl } in
    let a = draft r.own_open NoMessage c.args.made.now in
    let fresh = subst (λ (x : RouterView). KeepsFresh (sides_of x v) NoMessage (draft x.own_open NoMessage c.args.made.now)) (sym c.self.view_is) (c.requires.fresh c.if-overflows.false) in
    let is = c.carry.ensures.side ∙ ap (λ (s : Side). carried NoMessage s a) c.reserve.ensures.side in
    let on = subst (λ (s : Side). Followed r.tables c.carry.new.tables v (standing s) (standing (side c.carry.new.side))) c.reserve.ensures.side c.carry.ensures.tables in
    let few : c.args.stamp ≤ GREATEST_STAMP = omega (arith, c.if-stamp-gt-GREATEST_STAMP.false) in
    stays r v c.args.peer_at p q ch c.carry.new.tables c.close.new.marks c.args.stamp c.self.invariant few
    (tracks_moved r v c.args.peer_at p q ch c.self.invariant a c.carry.new.tables fresh is on) (record { over = c.close.ensures.over; router = c.close.ensures.router })

pub returns-clause-carries : goal.returns-clause-carries
returns-clause-carries c =
    let r = view_of c.self.inside in
    let v = c.args.peer in
    let p = c.index_mut.result.now in
    let q : Peer = record { number = p.number; side = c.carry.new.side } in
    let place = subst (λ (x : RouterView). IsFound x.peers v c.args.peer_at) (sym c.self.view_is) c.requires.place in
    let ch : Changes r v c.args.peer_at p q = record { place = place.2; here = c.index_mut.ensures.value; number = refl } in
    let a = draft r.own_open NoMessage c.args.made.now in
    let is = c.carry.ensures.side ∙ ap (λ (s : Side). carried NoMessage s a) c.reserve.ensures.side in
    let on = leaves r.tables c.carry.new.tables v (standing (side c.reserve.new.self)) (standing (side c.carry.new.side)) c.carry.ensures.tables in
    let early : nat_lt GREATEST_STAMP c.args.stamp ≡ false = grind (arith, nat_tests, c.if-stamp-gt-GREATEST_STAMP.false) in
    subst (λ (x : RouterView). Carries (Ok Did) x v NoMessage (draft x.own_open NoMessage c.args.made.now) c.args.made.now.overflows c.args.stamp (with_peer r c.args.peer_at q c.carry.new.tables c.close.new.marks c.args.stamp)) c.self.view_is
    (ends_did (nat_lt GREATEST_STAMP c.args.stamp) c.args.made.now.overflows (plain_of r) (record { router = moved (plain_of r).router v NoMessage a; stamp = c.args.stamp })
    (plain_of (with_peer r c.args.peer_at q c.carry.new.tables c.close.new.marks c.args.stamp)) early c.if-overflows.false
    (moves r v c.args.peer_at p q ch c.carry.new.tables c.close.new.marks c.args.stamp NoMessage a is on (nothing_seen a.acts v _ (snapshots_of c.close.new.marks) c.close.ensures.closed)))
