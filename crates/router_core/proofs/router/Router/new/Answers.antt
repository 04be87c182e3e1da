use Rattle.std.proofs.Common.{◌≡◌, refl, subst, arith}
use Rattle.std.specs.List.{AllByRecursion}
use Rattle.ranked_policy.specs.declared.network.Settings.{Settings}
use Rattle.router_side.specs.SideOf.{side, side_opening}
use Rattle.router_core.specs.Views.{config_of}
use Rattle.router_core.proofs.PeerLemmas.{listed_is}
use Rattle.router_core.proofs.Starting.{tabled_opening, marked_opening, opens}
use Rattle.router_core.proofs.router.Router.new.Goals as goal

pub invariant_of-result : goal.invariant_of-result
invariant_of-result c =
    let net = c.settings-settings.ensures.network in
    let sides : AllByRecursion (λ p. side p.side ≡ side_opening (config_of c.args.network.now) c.args.network.now.settings.width) c.in-Ok.peers.items =
    subst (λ (s : Settings). AllByRecursion (λ p. side p.side ≡ side_opening (record { hold = s.hold; restart = s.restart }) c.args.network.now.settings.width) c.in-Ok.peers.items) c.settings-settings.ensures.value
    c.in-Ok.ensures.sides in
    record {
      network = net;
      router = c.requires;
      numbers = c.in-Ok.ensures.numbers;
      links = listed_is c.linked_routers_are_peers.ensures c.args.network.now net c.args.number c.in-Ok.peers.items c.in-Ok.ensures.numbers;
      own_open = c.own_open.ensures.open;
      sayable = c.own_open.ensures.sayable;
      stamp = omega arith;
      tabled = tabled_opening c.args.network.now c.args.number c.own_open.result c.in-Ok.peers.items c.in-Ok-new.tables c.new-2.result sides c.in-Ok-new.ensures;
      marked = marked_opening c.args.network.now c.args.number c.own_open.result c.in-Ok.peers.items c.in-Ok-new.tables c.new-2.result sides c.in-Ok-new.ensures c.new-2.ensures.over c.new-2.ensures.router;
    }

pub returns : goal.returns
returns c =
    let sides : AllByRecursion (λ p. side p.side ≡ side_opening (config_of c.args.network.now) c.args.network.now.settings.width) c.in-Ok.peers.items =
    subst (λ (s : Settings). AllByRecursion (λ p. side p.side ≡ side_opening (record { hold = s.hold; restart = s.restart }) c.args.network.now.settings.width) c.in-Ok.peers.items) c.settings-settings.ensures.value
    c.in-Ok.ensures.sides in (
      refl,
      refl,
      λ g e. opens c.args.network.now c.args.number c.own_open.result c.in-Ok.peers.items c.in-Ok-new.tables c.new-2.result sides c.in-Ok-new.ensures c.new-2.ensures.none g e,
    )
