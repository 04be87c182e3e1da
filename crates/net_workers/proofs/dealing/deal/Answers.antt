use Rattle.std.proofs.Common.{◌-◌, length, arith, ap, ◌∙◌}
use Rattle.ranked_policy.specs.declared.network.Settings.{Settings}
use Rattle.net_workers.proofs.Dealt.{link_at, dealt_none, deal_one}
use Rattle.net_workers.proofs.dealing.deal.Goals as goal

pub links-init : goal.links-init
links-init c = record {
  left = (let long = ap length c.links-links.ensures.value in omega (arith, long));
  many = c.in_ok-ends.ensures.many ∙ ap length c.routers.ensures.value;
  new = c.in_ok-ends.ensures.new;
  dealt = dealt_none c.args.network.now c.links-links.result.now c.in_ok-ends.ends.items c.links-links.ensures.value c.in_ok-ends.ensures.none;
}

pub place_of-one-requires : goal.place_of-one-requires
place_of-one-requires c =
    let long = ap length c.links-links.ensures.value in
    let some = c.links-test.true in
    let few = c.links.invariant.left in
    (link_at c.args.network.now c.links-links.result.now c.links-links.ensures.value c.links-links.ensures.network (c.links.left - 1) _ (omega (arith, long, some, few))).one

pub place_of-other-requires : goal.place_of-other-requires
place_of-other-requires c =
    let long = ap length c.links-links.ensures.value in
    let some = c.links-test.true in
    let few = c.links.invariant.left in
    (link_at c.args.network.now c.links-links.result.now c.links-links.ensures.value c.links-links.ensures.network (c.links.left - 1) _ (omega (arith, long, some, few))).other

pub links-preserved : goal.links-preserved
links-preserved c = record {
  left = (let few = c.links.invariant.left in omega (arith, few));
  many = c.in_ok-join.ensures.many ∙ c.links.invariant.many;
  new = c.in_ok-join.ensures.new;
  dealt =
      deal_one c.args.network.now c.links-links.result.now c.links.ends.items c.join.new.ends.items c.settings-room.result.pipe c.links.left c.place_of-one.result c.place_of-other.result _
      c.links-links.ensures.value c.links-links.ensures.network (ap (λ (s : Settings). s.pipe) c.settings-room.ensures.value) c.links-test.true c.links.invariant.left
      c.place_of-one.ensures.below c.place_of-other.ensures.below c.place_of-one.ensures.at c.place_of-other.ensures.at c.links.invariant.many c.links.invariant.dealt c.in_ok-join.ensures.joined;
}
