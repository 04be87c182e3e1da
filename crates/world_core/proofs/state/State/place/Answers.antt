use Rattle.std.proofs.Common.{refl}
use Rattle.world_core.proofs.Places.{at_place}
use Rattle.world_core.proofs.Stepping.{known, unknown}
use Rattle.world_core.proofs.state.State.place.Goals as goal

pub returns-in-Some : goal.returns-in-Some
returns-in-Some c =
    let net = c.args.self.now.network.now in
    record {
      whole = c.requires;
      router = at_place (λ r. r.number) c.args.self.now.routers.items net.routers c.args.number c.in-Some.router_at c.requires.routers c.requires.network.plan.rising c.in-Some.ensures.value.0 c.in-Some.ensures.value.1;
      inbox = at_place (λ b. b.router) c.args.self.now.inboxes.items net.routers c.args.number c.in-Some.router_at c.requires.inboxes c.requires.network.plan.rising c.in-Some.ensures.value.0 c.in-Some.ensures.value.1;
      known = λ g e. known g net c.args.number e (c.in-Some.ensures.some.0 refl);
    }

pub returns-in-None : goal.returns-in-None
returns-in-None c =
    let net = c.args.self.now.network.now in
    (refl, λ g e. unknown g net c.args.number e (λ r. let k = c.in-None.ensures.some.1 r in absurd cc))
