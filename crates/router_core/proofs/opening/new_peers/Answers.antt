use Rattle.std.proofs.Common.{◌≡◌, ◌+◌, ◌++◌, ◌∷◌, [], ◌∙◌, refl, map, drop, get_or, sym, subst, rules}
use Rattle.router_model.specs.Settings.{peers}
use Rattle.router_side.specs.SideOf.{side, side_opening}
use Rattle.std.specs.List.{AllByRecursion}
use Rattle.ranked_policy.specs.declared.network.Link.{Link}
use Rattle.router_core.specs.declared.peers.Peer.{Peer}
use Rattle.router_core.proofs.OpeningLemmas.{one_more, all_more}
use Rattle.router_core.proofs.opening.new_peers.Goals as goal

pub loop-link-preserved : goal.loop-link-preserved
loop-link-preserved c =
    let net = c.args.network.now in
    let made = c.loop-link.made.items in
    let links = c.links_of-link-items.result.now in
    let link : Link = get_or links c.loop-link.link-index (record { one = 0; other = 0 }) in
    let peer : Peer = record { number = link.other; side = c.in_ok-side.side } in
    let grown : c.push.new.self.items ≡ made ++ peer ∷ [] = search rules in
    let fresh : side c.in_ok-side.side ≡ side_opening c.args.config net.settings.width = search rules in
    record {
      numbers = subst (λ ps. map (λ p. p.number) ps ++ map (λ k. k.other) (drop (c.loop-link.link-index + 1) links) ≡ peers net c.args.number) (sym grown)
          (one_more made peer links c.loop-link.link-index (record { one = 0; other = 0 }) link c.loop-link-test.true refl refl ∙ c.loop-link.invariant.numbers);
      sides = subst (AllByRecursion (λ p. side p.side ≡ side_opening c.args.config net.settings.width)) (sym grown)
          (all_more (λ p. side p.side ≡ side_opening c.args.config net.settings.width) made peer c.loop-link.invariant.sides fresh);
    }
