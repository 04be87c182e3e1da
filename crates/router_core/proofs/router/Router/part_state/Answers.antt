use Rattle.std.proofs.Common.{List, subst}
use Rattle.std.specs.Prelude.{None}
use Rattle.ranked_policy.specs.declared.network.Origin.{Origin}
use Rattle.router_core.specs.declared.peers.Peer.{Peer}
use Rattle.router_core.specs.Views.{view_of, RouterView}
use Rattle.router_core.specs.Recorded.{IsPart, IsStateOf}
use Rattle.router_core.proofs.Snapshots.{part_same}
use Rattle.router_core.proofs.router.Router.part_state.Goals as goal

pub returns : goal.returns
returns c =
    let r = view_of c.self.inside in
    let s = c.self.invariant in
    let laws = c.the_best_is_the_best_path.ensures in
    let part =
    subst (λ (os : List Origin). IsPart os r.tables r.peers r.number 0 None c.in-Ok.part) c.origins-origins.ensures.value
    (subst (λ (ps : List Peer). IsPart c.origins-origins.result.now r.tables ps r.number 0 None c.in-Ok.part) c.as_slice-peers.ensures.value c.in-Ok.ensures) in
    subst (λ (x : RouterView). IsStateOf x c.in-Ok.part) c.self.view_is
    (record {
      router = part.router;
      number = part.number;
      state = λ g e ranks. part_same laws.over laws.one c.linked_routers_are_peers.ensures g r (record { sound = s; net = e; ranks = ranks; linked = laws.linked }) 0 None tt c.in-Ok.part part;
    })
