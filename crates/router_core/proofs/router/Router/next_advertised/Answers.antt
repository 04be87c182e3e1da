use Rattle.std.proofs.Common.{◌≡◌, ◌∙◌, ℕ, Some, ap, sym, subst, rules}
use Rattle.router_model.specs.State.{unadvertised}
use Rattle.router_core.specs.declared.peers.Peer.{Peer}
use Rattle.router_core.specs.Views.{RouterView, IsAt, plain_of, unchosen}
use Rattle.router_core.proofs.PeerLemmas.{is_below, number_here}
use Rattle.router_core.proofs.router.Router.next_advertised.Goals as goal

pub index-requires : goal.index-requires
index-requires c =
    let found = c.in-Peer.ensures.0 in
    let place = subst (λ (x : RouterView). IsAt x.peers found.peer c.in-Peer.peer_at) (sym c.self.view_is) found.place in
    let inside = is_below c.self.inside.peers.items found.peer c.in-Peer.peer_at place in
    search rules

pub returns-in-Peer : goal.returns-in-Peer
returns-in-Peer c =
    let x = c.args.self.now in
    let found = c.in-Peer.ensures.0 in
    let place = subst (λ (y : RouterView). IsAt y.peers found.peer c.in-Peer.peer_at) (sym c.self.view_is) found.place in
    let is : c.index.result.now.number ≡ found.peer = ap (λ (p : Peer). p.number) c.index.ensures ∙ number_here c.self.inside.peers.items found.peer c.in-Peer.peer_at c.index.result.now place in (
      c.in-Peer.ensures.1 ∙ ap Some (sym is),
      subst (λ (v : ℕ). unadvertised (unchosen x.net) x.number (plain_of x).router v ≡ Some c.in-Peer.prefix) (sym is) found.waits,
    )
