use Rattle.ranked_policy.specs.Plans.{Plan}
use Rattle.ranked_policy.proofs.PeerLemmas.{links_to_peers}
use Rattle.ranked_policy.proofs.WayLemmas.{both}
use Rattle.ranked_policy.proofs.builder.NetBuilder.links_of.Goals as goal

pub returns-clause-exact : goal.returns-clause-exact
returns-clause-exact c v = rw (← c.self.view_is) (both (c.of.ensures.exact v) (c.self.invariant.1 c.args.asn v))

pub returns-clause-peers : goal.returns-clause-peers
returns-clause-peers c =
    let s = c.self.inside in
    let net : Plan = record { settings = s.settings; routers = s.routers.items; links = s.links.items; origins = s.origins.items } in
    rw (← c.self.view_is)
    (links_to_peers net c.args.asn c.of.result.now c.self.invariant.0 c.of.ensures.from c.of.ensures.rising (λ v. both (c.of.ensures.exact v) (c.self.invariant.1 c.args.asn v)))
