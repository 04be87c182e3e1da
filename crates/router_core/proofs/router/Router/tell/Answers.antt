use Rattle.std.proofs.Common.{◌≡◌, ℕ, ◌+◌, ◌<◌, ◌≤◌, false, length, arith, rules, refl, ap, sym, subst, ◌∙◌}
use Rattle.std.specs.Prelude.{nat_lt, Ok, Err}
use Rattle.std.proofs.lemmas.Bool.Decides.{nat_tests}
use Rattle.std.proofs.lemmas.Result.{err_from_is_err_and}
use Rattle.bgp_values.specs.declared.width.Width.{Width}
use Rattle.bgp_codec.specs.declared.message.Message.TheVariants.{UpdateMsg}
use Rattle.rib_tables.specs.Tables.{path_of}
use Rattle.router_model.specs.declared.refusal.RouterError.TheVariants as error
use Rattle.router_model.specs.declared.refusal.Stepped.TheVariants as stepped
use Rattle.router_model.specs.Settings.{identifier}
use Rattle.router_model.specs.Sides.{Side, is_up, told}
use Rattle.router_model.specs.State.{telling}
use Rattle.run_model.specs.declared.stamps.TheConstants.{GREATEST_STAMP}
use Rattle.router_side.specs.Sayings.{IsSayable}
use Rattle.router_side.specs.SideOf.{side}
use Rattle.router_core.specs.declared.peers.Peer.{Peer}
use Rattle.router_core.specs.Views.{view_of, RouterView, IsAt, IsNamedAt, MayTell, Tells, sides_of, plain_of, told_to}
use Rattle.router_core.specs.Calling.{no_step}
use Rattle.router_core.proofs.NoStep.{ends_no_step}
use Rattle.router_core.proofs.Places.{listed_here}
use Rattle.router_core.proofs.Untold.{below, named, place, here, has_width, up, number_is}
use Rattle.router_core.proofs.Tellings.{with_peer_and_tables, sound_still, plain_still, sound_told, plain_told}
use Rattle.router_core.proofs.router.Router.tell.Goals as goal

pub returns-in_err-stamp-clause-tells : goal.returns-in_err-stamp-clause-tells
returns-in_err-stamp-clause-tells c =
    let p = err_from_is_err_and c.from_residual.result c.from_residual.ensures.1 in
    let r = view_of c.self.inside in
    let q = c.args.prefix.now in
    rw (p.1, p.2, c.in_err-stamp.ensures.refused)
    (subst (λ (x : RouterView). (v : ℕ) → IsAt x.peers v c.args.peer_at → Tells (Err (no_step r.stamp)) x v q x) c.self.view_is (λ v at.
    ends_no_step (nat_lt GREATEST_STAMP (r.stamp + 1)) (plain_of r) (told_to (plain_of r) r.net r.number v q)))

pub path_to_tell-requires-clause-named : goal.path_to_tell-requires-clause-named
path_to_tell-requires-clause-named c =
    let r = view_of c.self.inside in
    let q = c.args.prefix.now in
    let may = subst (λ (x : RouterView). MayTell x c.args.peer_at q) (sym c.self.view_is) c.requires.may in
    named r c.self.invariant c.args.peer_at q may

pub index_mut-requires : goal.index_mut-requires
index_mut-requires c =
    let r = view_of c.self.inside in
    let q = c.args.prefix.now in
    let may = subst (λ (x : RouterView). MayTell x c.args.peer_at q) (sym c.self.view_is) c.requires.may in
    let lt : c.args.peer_at < length r.peers = below r c.self.invariant c.args.peer_at q may in
    search rules

pub invariant_of-self : goal.invariant_of-self
invariant_of-self c =
    let r = view_of c.self.inside in
    let q = c.args.prefix.now in
    let may = subst (λ (x : RouterView). MayTell x c.args.peer_at q) (sym c.self.view_is) c.requires.may in
    let p = c.index_mut.result.now in
    let is = c.index_mut.ensures.value in
    let kept : Peer = record { number = p.number; side = c.reserve_path.new.self } in
    let still : side kept.side ≡ sides_of r p.number = c.reserve_path.ensures.side ∙ here r c.self.invariant c.args.peer_at q may p is in
    sound_still r c.self.invariant p.number c.args.peer_at (place r c.self.invariant c.args.peer_at q may p is) kept refl still

pub returns-in_default-reserve_path-clause-tells : goal.returns-in_default-reserve_path-clause-tells
returns-in_default-reserve_path-clause-tells c =
    let r = view_of c.self.inside in
    let q = c.args.prefix.now in
    let may = subst (λ (x : RouterView). MayTell x c.args.peer_at q) (sym c.self.view_is) c.requires.may in
    let p = c.index_mut.result.now in
    let is = c.index_mut.ensures.value in
    let kept : Peer = record { number = p.number; side = c.reserve_path.new.self } in
    let still : side kept.side ≡ sides_of r p.number = c.reserve_path.ensures.side ∙ here r c.self.invariant c.args.peer_at q may p is in
    let early : nat_lt GREATEST_STAMP (r.stamp + 1) ≡ false = c.in_ok-stamp.ensures.next.1 in
    subst (λ (x : RouterView). (v : ℕ) → IsAt x.peers v c.args.peer_at → Tells (Err error.Memory) x v q (with_peer_and_tables r c.args.peer_at kept r.tables r.stamp)) c.self.view_is (λ v at.
    rw early (refl, plain_still r c.self.invariant p.number c.args.peer_at (place r c.self.invariant c.args.peer_at q may p is) kept refl still))

pub path_at-path-requires : goal.path_at-path-requires
path_at-path-requires c =
    let r = view_of c.self.inside in
    record { stands = rw c.self.invariant.tabled.net (subst (λ (x : RouterView). IsNamedAt x.net c.args.prefix.now c.args.prefix_at) (sym c.self.view_is) c.requires.named) }

pub tell_at-requires-clause-stands : goal.tell_at-requires-clause-stands
tell_at-requires-clause-stands c =
    let r = view_of c.self.inside in
    let q = c.args.prefix.now in
    let may = subst (λ (x : RouterView). MayTell x c.args.peer_at q) (sym c.self.view_is) c.requires.may in
    listed_here r c.args.peer_at c.index_mut.result.now c.self.invariant (below r c.self.invariant c.args.peer_at q may) c.index_mut.ensures.value

pub tell_at-requires-clause-named : goal.tell_at-requires-clause-named
tell_at-requires-clause-named c =
    rw c.self.invariant.tabled.net (subst (λ (x : RouterView). IsNamedAt x.net c.args.prefix.now c.args.prefix_at) (sym c.self.view_is) c.requires.named)

pub invariant_of-self-in_default-tell_at : goal.invariant_of-self-in_default-tell_at
invariant_of-self-in_default-tell_at c =
    let r = view_of c.self.inside in
    let q = c.args.prefix.now in
    let may = subst (λ (x : RouterView). MayTell x c.args.peer_at q) (sym c.self.view_is) c.requires.may in
    let p = c.index_mut.result.now in
    let is = c.index_mut.ensures.value in
    let kept : Peer = record { number = p.number; side = c.reserve_path.new.self } in
    let still : side kept.side ≡ sides_of r p.number = c.reserve_path.ensures.side ∙ here r c.self.invariant c.args.peer_at q may p is in
    rw c.in_default-tell_at.ensures.err (sound_still r c.self.invariant p.number c.args.peer_at (place r c.self.invariant c.args.peer_at q may p is) kept refl still)

pub returns-in_default-tell_at-clause-tells : goal.returns-in_default-tell_at-clause-tells
returns-in_default-tell_at-clause-tells c =
    let r = view_of c.self.inside in
    let q = c.args.prefix.now in
    let may = subst (λ (x : RouterView). MayTell x c.args.peer_at q) (sym c.self.view_is) c.requires.may in
    let p = c.index_mut.result.now in
    let is = c.index_mut.ensures.value in
    let kept : Peer = record { number = p.number; side = c.reserve_path.new.self } in
    let still : side kept.side ≡ sides_of r p.number = c.reserve_path.ensures.side ∙ here r c.self.invariant c.args.peer_at q may p is in
    let early : nat_lt GREATEST_STAMP (r.stamp + 1) ≡ false = c.in_ok-stamp.ensures.next.1 in
    rw c.in_default-tell_at.ensures.err
    (subst (λ (x : RouterView). (v : ℕ) → IsAt x.peers v c.args.peer_at → Tells (Err error.Memory) x v q (with_peer_and_tables r c.args.peer_at kept r.tables r.stamp)) c.self.view_is (λ v at.
    rw early (refl, plain_still r c.self.invariant p.number c.args.peer_at (place r c.self.invariant c.args.peer_at q may p is) kept refl still)))

pub tell_path-requires-clause-up : goal.tell_path-requires-clause-up
tell_path-requires-clause-up c =
    let r = view_of c.self.inside in
    let q = c.args.prefix.now in
    let may = subst (λ (x : RouterView). MayTell x c.args.peer_at q) (sym c.self.view_is) c.requires.may in
    let p = c.index_mut.result.now in
    let is = c.index_mut.ensures.value in
    let kept : Peer = record { number = p.number; side = c.reserve_path.new.self } in
    let still : side kept.side ≡ sides_of r p.number = c.reserve_path.ensures.side ∙ here r c.self.invariant c.args.peer_at q may p is in
    ap is_up still ∙ up r c.self.invariant c.args.peer_at q may p is

pub tell_path-requires-clause-sayable : goal.tell_path-requires-clause-sayable
tell_path-requires-clause-sayable c =
    let r = view_of c.self.inside in
    let q = c.args.prefix.now in
    let may = subst (λ (x : RouterView). MayTell x c.args.peer_at q) (sym c.self.view_is) c.requires.may in
    let p = c.index_mut.result.now in
    let width : (side c.reserve_path.new.self).width ≡ r.net.settings.width = ap (λ (s : Side). s.width) c.reserve_path.ensures.side ∙ has_width r c.self.invariant c.args.peer_at q may p c.index_mut.ensures.value in
    subst (λ (w : Width). IsSayable w (UpdateMsg c.in-Ok.told)) (sym width) c.in-Ok.ensures.sayable

pub invariant_of-self-2 : goal.invariant_of-self-2
invariant_of-self-2 c =
    let r = view_of c.self.inside in
    let q = c.args.prefix.now in
    let may = subst (λ (x : RouterView). MayTell x c.args.peer_at q) (sym c.self.view_is) c.requires.may in
    let p = c.index_mut.result.now in
    let is = c.index_mut.ensures.value in
    let told_peer : Peer = record { number = p.number; side = c.tell_path.new.self } in
    let update : c.in-Ok.told ≡ telling (identifier r.net.routers r.number) q (path_of r.tables.kept q) =
    c.in-Ok.ensures.update ∙ ap (telling (identifier r.net.routers r.number) q) c.path_at-path.ensures in
    let before : side c.reserve_path.new.self ≡ sides_of r p.number = c.reserve_path.ensures.side ∙ here r c.self.invariant c.args.peer_at q may p is in
    let says : side told_peer.side ≡ told (sides_of r p.number) (telling (identifier r.net.routers r.number) q (path_of r.tables.kept q)) =
    c.tell_path.ensures ∙ ap (λ (s : Side). told s c.in-Ok.told) before ∙ ap (told (sides_of r p.number)) update in
    let few : r.stamp + 1 ≤ GREATEST_STAMP = grind (arith, nat_tests, c.in_ok-stamp.ensures.next.1) in
    rw c.in_ok-stamp.ensures.next.0
    (sound_told r c.self.invariant p.number c.args.peer_at (place r c.self.invariant c.args.peer_at q may p is) told_peer refl q (up r c.self.invariant c.args.peer_at q may p is) c.tell_at.new.self c.in-Ok-tell_at.ensures.ok says (r.stamp + 1) few)

pub returns-clause-tells : goal.returns-clause-tells
returns-clause-tells c =
    let r = view_of c.self.inside in
    let q = c.args.prefix.now in
    let may = subst (λ (x : RouterView). MayTell x c.args.peer_at q) (sym c.self.view_is) c.requires.may in
    let p = c.index_mut.result.now in
    let is = c.index_mut.ensures.value in
    let told_peer : Peer = record { number = p.number; side = c.tell_path.new.self } in
    let update : c.in-Ok.told ≡ telling (identifier r.net.routers r.number) q (path_of r.tables.kept q) =
    c.in-Ok.ensures.update ∙ ap (telling (identifier r.net.routers r.number) q) c.path_at-path.ensures in
    let before : side c.reserve_path.new.self ≡ sides_of r p.number = c.reserve_path.ensures.side ∙ here r c.self.invariant c.args.peer_at q may p is in
    let says : side told_peer.side ≡ told (sides_of r p.number) (telling (identifier r.net.routers r.number) q (path_of r.tables.kept q)) =
    c.tell_path.ensures ∙ ap (λ (s : Side). told s c.in-Ok.told) before ∙ ap (told (sides_of r p.number)) update in
    let early : nat_lt GREATEST_STAMP (r.stamp + 1) ≡ false = c.in_ok-stamp.ensures.next.1 in
    let all : Tells (Ok stepped.Did) r p.number q (with_peer_and_tables r c.args.peer_at told_peer c.tell_at.new.self (r.stamp + 1)) =
    rw early (refl, plain_told r c.self.invariant p.number c.args.peer_at (place r c.self.invariant c.args.peer_at q may p is) told_peer refl q (up r c.self.invariant c.args.peer_at q may p is) c.tell_at.new.self c.in-Ok-tell_at.ensures.ok says (r.stamp + 1) refl) in
    rw c.in_ok-stamp.ensures.next.0
    (subst (λ (x : RouterView). (v : ℕ) → IsAt x.peers v c.args.peer_at → Tells (Ok stepped.Did) x v q (with_peer_and_tables r c.args.peer_at told_peer c.tell_at.new.self (r.stamp + 1))) c.self.view_is (λ v at.
    subst (λ (n : ℕ). Tells (Ok stepped.Did) r n q (with_peer_and_tables r c.args.peer_at told_peer c.tell_at.new.self (r.stamp + 1))) (number_is r c.self.invariant c.args.peer_at q may p is v at) all))
