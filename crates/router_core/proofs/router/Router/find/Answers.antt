use Rattle.std.proofs.Common.{ap, ◌∙◌, subst}
use Rattle.std.specs.Prelude.{MatchOption, IfSome, Some, true, false, ◌≡◌, slice_get}
use Rattle.std.specs.List.{position}
use Rattle.router_model.specs.Settings.{linked, peers}
use Rattle.router_core.specs.Views.{view_of, RouterView, is_number, listed, IsFound}
use Rattle.router_core.proofs.PeerLemmas.{found_at, found_linked}
use Rattle.router_core.proofs.Places.{found_stands}
use Rattle.router_core.proofs.router.Router.find.Goals as goal

pub returns-clause-place : goal.returns-clause-place
returns-clause-place c =
    subst (λ (x : RouterView). MatchOption c.place_of.result (listed c.args.peer x.peers ≡ false) (IsFound x.peers c.args.peer)) c.self.view_is
    (found_at c.self.inside.peers.items c.args.peer c.place_of.result (c.place_of.ensures ∙ ap (position (is_number c.args.peer)) c.as_slice.ensures.value))

pub returns-clause-none : goal.returns-clause-none
returns-clause-none c =
    subst (λ (x : RouterView). MatchOption c.place_of.result (linked x.net x.number c.args.peer ≡ false) (λ at. linked x.net x.number c.args.peer ≡ true)) c.self.view_is
    (found_linked c.self.inside.peers.items c.args.peer c.place_of.result (linked c.self.inside.network.now c.self.inside.number c.args.peer) (c.self.invariant.links c.args.peer)
    (found_at c.self.inside.peers.items c.args.peer c.place_of.result (c.place_of.ensures ∙ ap (position (is_number c.args.peer)) c.as_slice.ensures.value)))

pub returns-clause-stands : goal.returns-clause-stands
returns-clause-stands c =
    let r = view_of c.self.inside in
    subst (λ (x : RouterView). IfSome c.place_of.result (λ at. slice_get (peers x.net x.number) at ≡ Some c.args.peer)) c.self.view_is
    (found_stands r c.args.peer c.place_of.result c.self.invariant (found_at r.peers c.args.peer c.place_of.result (c.place_of.ensures ∙ ap (position (is_number c.args.peer)) c.as_slice.ensures.value)))
