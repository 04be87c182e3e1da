use Rattle.std.proofs.Common.{◌≡◌, ◌∙◌, ℕ, List, sym, ap, subst}
use Rattle.std.specs.Prelude.{IfOk}
use Rattle.bgp_codec.specs.declared.update.Update.{Update}
use Rattle.router_model.specs.Sides.{Side}
use Rattle.router_side.specs.Histories.{history}
use Rattle.router_side.specs.SideOf.{side, side_opening}
use Rattle.router_core.specs.declared.peers.Peer.{Peer}
use Rattle.router_core.specs.Views.{view_of, RouterView, IsFound, sides_of, config_of}
use Rattle.router_core.proofs.PeerLemmas.{side_here}
use Rattle.router_core.proofs.router.Router.acted.Goals as goal

pub returns : goal.returns
returns c =
    let r = view_of c.self.inside in
    let v = c.args.peer in
    let place = subst (λ (x : RouterView). IsFound x.peers v c.in_ok-peer_at.peer_at) (sym c.self.view_is) c.in_ok-peer_at.ensures.place in
    let stands : sides_of r v ≡ side c.index.result.now.side =
    side_here (side_opening (config_of r.net) r.net.settings.width) r.peers v c.in_ok-peer_at.peer_at c.index.result.now place.2 ∙ ap (λ (w : Peer). side w.side) (sym c.index.ensures) in
    subst (λ (us : ℕ → List Update). IfOk c.acted.result (λ told. history told.items ≡ us)) (ap (λ (s : Side). s.acted) (sym stands) ∙ ap (λ (x : RouterView). (sides_of x v).acted) c.self.view_is)
    c.acted.ensures
