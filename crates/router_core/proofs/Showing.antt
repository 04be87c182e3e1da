-- What a router shows of the side towards a peer is that of the peer at its place.
use Rattle.std.proofs.Common.{◌≡◌, ◌∙◌, ℕ, true, Some, ap, sym, subst, get_or}
use Rattle.router_model.specs.Settings.{linked}
use Rattle.router_model.specs.Sides.{Side}
use Rattle.router_side.specs.SideOf.{side, side_opening}
use Rattle.router_core.specs.declared.peers.Peer.{Peer}
use Rattle.router_core.specs.Views.{RouterView, IsFound, sides_of, config_of}
use Rattle.router_core.specs.Shown.{of_peer}
use Rattle.router_core.proofs.PeerLemmas.{side_here}

pub stands : (r x : RouterView) (v i : ℕ) (p : Peer) → r ≡ x → IsFound x.peers v i → p ≡ get_or r.peers i p → sides_of x v ≡ side p.side
stands r x v i p same found is =
    let place = subst (λ (y : RouterView). IsFound y.peers v i) (sym same) found in
    ap (λ (y : RouterView). sides_of y v) (sym same) ∙ side_here (side_opening (config_of r.net) r.net.settings.width) r.peers v i p place.2 ∙ ap (λ (w : Peer). side w.side) (sym is)

pub shown : {A : Type 0} (r x : RouterView) (v i : ℕ) (p : Peer) (says : Side → A) → r ≡ x → IsFound x.peers v i → linked x.net x.number v ≡ true → p ≡ get_or r.peers i p → Some (says (side p.side)) ≡ of_peer x v says
shown r x v i p says same found links is = rw links (ap (λ (s : Side). Some (says s)) (sym (stands r x v i p same found is)))
