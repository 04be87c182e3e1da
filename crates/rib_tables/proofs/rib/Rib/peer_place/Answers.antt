use Rattle.std.proofs.Common.{◌≡◌, List, Some, subst, sym, ap, ◌∙◌}
use Rattle.std.specs.List.{slice_get}
use Rattle.ranked_policy.specs.Peers.{peers}
use Rattle.ranked_policy.specs.Plans.{Linked}
use Rattle.rib_tables.specs.declared.row.Peer.{Peer}
use Rattle.rib_tables.specs.Owners.{RibView}
use Rattle.rib_tables.proofs.RibLemmas.{place_some, place_is, place_at_peer}
use Rattle.rib_tables.proofs.rib.Rib.peer_place.Goals as goal

pub unwrap-requires : goal.unwrap-requires
unwrap-requires c =
    let there = c.self.invariant.whole.linked c.args.peer (subst (λ (v : RibView). Linked v.net.links v.router c.args.peer) (sym c.self.view_is) c.requires) in
    place_some c.as_slice.result.now c.args.peer c.place_of_peer.result c.place_of_peer.ensures there.0 there.1 (ap (λ (ps : List Peer). slice_get ps there.0) c.as_slice.ensures.value ∙ there.2) there.3

pub returns : goal.returns
returns c =
    let s = c.self.inside in
    let here = place_is c.as_slice.result.now s.peers.items c.args.peer c.place_of_peer.result c.unwrap.result c.as_slice.ensures.value c.place_of_peer.ensures c.unwrap.ensures in
    subst (λ (v : RibView). slice_get (peers v.net v.router) c.unwrap.result ≡ Some c.args.peer) c.self.view_is
    (place_at_peer s.network.now s.router s.peers.items s.keys.keys s.rows.items c.self.invariant.whole c.args.peer c.unwrap.result here.0 here.1 here.2)
