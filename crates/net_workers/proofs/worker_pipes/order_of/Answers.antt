use Rattle.std.proofs.Common.{◌≡◌, ◌++◌, ◌∷◌, [], get_or, rules}
use Rattle.ranked_policy.specs.declared.network.Link.{Link}
use Rattle.net_workers.specs.Lanes.{is_to, place_among}
use Rattle.net_workers.proofs.Lists.{placed_on}
use Rattle.net_workers.proofs.worker_pipes.order_of.Goals as goal

pub loop-link-preserved : goal.loop-link-preserved
loop-link-preserved c =
    let links = c.args.links.now in
    let none : Link = record { one = 0; other = 0 } in
    let i = c.loop-link.link-index in
    let old = c.loop-link.order.items in
    let grown : c.push.new.self.items ≡ old ++ place_among (is_to (get_or links i none).other) c.args.pairs.now ∷ [] = search rules in
    placed_on (λ v. place_among (is_to v) c.args.pairs.now) links i none old c.push.new.self.items _ c.loop-link-test.true grown c.loop-link.invariant
