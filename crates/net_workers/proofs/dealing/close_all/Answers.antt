use Rattle.std.proofs.Common.{◌≡◌, ◌+◌, ◌++◌, ◌∷◌, [], List, map, drop, ap, subst, sym, ◌∙◌, append_assoc}
use Rattle.std.specs.List.{AllByRecursion, flat_map}
use Rattle.ranked_policy.specs.Plans.{numbers}
use Rattle.ruled_pipe.specs.Ends.{Closed}
use Rattle.outbox.specs.declared.item.Item.{Item}
use Rattle.net_workers.specs.declared.record.ClosedPipe.{ClosedPipe}
use Rattle.net_workers.specs.Lanes.{Wire}
use Rattle.net_workers.specs.Dealt.{lanes_by, lanes_in}
use Rattle.net_workers.specs.Ways.{IsWay, both_ways}
use Rattle.net_workers.proofs.Lists.{all_more}
use Rattle.net_workers.proofs.Dealt.{link_at, has_other, has_one, part_here, pass_here, is_way, between_more, from_to, HaveSoFar, passed_at_last}
use Rattle.net_workers.proofs.dealing.close_all.Goals as goal

pub place_of-one-requires : goal.place_of-one-requires
place_of-one-requires g c =
    (link_at c.args.network.now c.links-link-items.result.now c.links-link-items.ensures.value c.links-link-items.ensures.network c.loop-link.link-index _ c.loop-link-test.true).one

pub place_of-other-requires : goal.place_of-other-requires
place_of-other-requires g c =
    (link_at c.args.network.now c.links-link-items.result.now c.links-link-items.ensures.value c.links-link-items.ensures.network c.loop-link.link-index _ c.loop-link-test.true).other

pub unreachable-requires : goal.unreachable-requires
unreachable-requires g c =
    has_other c.args.network.now c.links-link-items.result.now c.loop-link.ends.items c.loop-link.link-index c.place_of-one.result c.place_of-other.result _
    c.links-link-items.ensures.value c.links-link-items.ensures.network c.loop-link-test.true c.place_of-one.ensures.below c.place_of-other.ensures.below c.place_of-one.ensures.at c.place_of-other.ensures.at
    c.loop-link.invariant.many c.loop-link.invariant.dealt c.in_default.ensures.none

pub unreachable-requires-in_default-last_pair : goal.unreachable-requires-in_default-last_pair
unreachable-requires-in_default-last_pair g c =
    has_one c.args.network.now c.links-link-items.result.now c.loop-link.ends.items c.loop-link.link-index c.place_of-one.result c.place_of-other.result _
    c.links-link-items.ensures.value c.links-link-items.ensures.network c.loop-link-test.true c.place_of-one.ensures.below c.place_of-other.ensures.below c.place_of-one.ensures.at c.place_of-other.ensures.at
    c.loop-link.invariant.many c.loop-link.invariant.dealt c.last_pair.new.ends.items c.in-Some.there c.in-Some.ensures.many c.in-Some.ensures.some c.in_default-last_pair.ensures.none

pub closed-requires : goal.closed-requires
closed-requires g c =
    let parts = part_here c.args.network.now c.links-link-items.result.now c.loop-link.ends.items c.loop-link.link-index c.place_of-one.result c.place_of-other.result _
    c.links-link-items.ensures.value c.links-link-items.ensures.network c.loop-link-test.true c.place_of-one.ensures.below c.place_of-other.ensures.below c.place_of-one.ensures.at c.place_of-other.ensures.at
    c.loop-link.invariant.many c.loop-link.invariant.dealt c.last_pair.new.ends.items c.in-Some.there c.in-Some.ensures.many c.in-Some.ensures.some
    c.last_pair-in-loop-link.new.ends.items c.in-Some-last_pair.here c.in-Some-last_pair.ensures.many c.in-Some-last_pair.ensures.some in
    record { one_pipe = ap (λ (w : Wire). w.out) parts.to_other ∙ sym (ap (λ (w : Wire). w.into) parts.to_one) }

pub closed-requires-in-loop-link : goal.closed-requires-in-loop-link
closed-requires-in-loop-link g c =
    let parts = part_here c.args.network.now c.links-link-items.result.now c.loop-link.ends.items c.loop-link.link-index c.place_of-one.result c.place_of-other.result _
    c.links-link-items.ensures.value c.links-link-items.ensures.network c.loop-link-test.true c.place_of-one.ensures.below c.place_of-other.ensures.below c.place_of-one.ensures.at c.place_of-other.ensures.at
    c.loop-link.invariant.many c.loop-link.invariant.dealt c.last_pair.new.ends.items c.in-Some.there c.in-Some.ensures.many c.in-Some.ensures.some
    c.last_pair-in-loop-link.new.ends.items c.in-Some-last_pair.here c.in-Some-last_pair.ensures.many c.in-Some-last_pair.ensures.some in
    record { one_pipe = ap (λ (w : Wire). w.out) parts.to_one ∙ sym (ap (λ (w : Wire). w.into) parts.to_other) }

pub loop-link-preserved : goal.loop-link-preserved
loop-link-preserved g c =
    let parts = part_here c.args.network.now c.links-link-items.result.now c.loop-link.ends.items c.loop-link.link-index c.place_of-one.result c.place_of-other.result _
    c.links-link-items.ensures.value c.links-link-items.ensures.network c.loop-link-test.true c.place_of-one.ensures.below c.place_of-other.ensures.below c.place_of-one.ensures.at c.place_of-other.ensures.at
    c.loop-link.invariant.many c.loop-link.invariant.dealt c.last_pair.new.ends.items c.in-Some.there c.in-Some.ensures.many c.in-Some.ensures.some
    c.last_pair-in-loop-link.new.ends.items c.in-Some-last_pair.here c.in-Some-last_pair.ensures.many c.in-Some-last_pair.ensures.some in
    let there = c.closed.result in
    let back = c.closed-in-loop-link.result in
    let ways : c.push-in-loop-link.new.self.items ≡ c.loop-link.ways.items ++ there ∷ back ∷ [] =
    c.in_ok-push-2.ensures.items ∙ ap (λ (ws : List ClosedPipe). ws ++ back ∷ []) c.in_ok-push.ensures.items ∙ append_assoc c.loop-link.ways.items (there ∷ []) (back ∷ []) in
    record {
      many = c.in-Some-last_pair.ensures.many ∙ c.in-Some.ensures.many ∙ c.loop-link.invariant.many;
      dealt = parts.dealt;
      passed =
          subst (HaveSoFar (lanes_by (numbers c.args.network.now.routers) (lanes_in c.args.ends.items)) (lanes_by (numbers c.args.network.now.routers) (lanes_in c.last_pair-in-loop-link.new.ends.items))) (sym ways)
          (pass_here c.args.network.now c.links-link-items.result.now c.loop-link.ends.items c.loop-link.link-index c.place_of-one.result c.place_of-other.result _
          c.links-link-items.ensures.value c.links-link-items.ensures.network c.loop-link-test.true c.place_of-one.ensures.below c.place_of-other.ensures.below c.place_of-one.ensures.at c.place_of-other.ensures.at
          c.loop-link.invariant.many c.loop-link.invariant.dealt c.last_pair.new.ends.items c.in-Some.there c.in-Some.ensures.many c.in-Some.ensures.some
          c.last_pair-in-loop-link.new.ends.items c.in-Some-last_pair.here c.in-Some-last_pair.ensures.many c.in-Some-last_pair.ensures.some
          (lanes_by (numbers c.args.network.now.routers) (lanes_in c.args.ends.items)) c.loop-link.ways.items there back
          (record {
            out = (c.closed.ensures.from, c.closed.ensures.to);
            back = (c.closed-in-loop-link.ensures.from, c.closed-in-loop-link.ensures.to);
            put = (ap (λ (t : Closed Item). t.put) c.closed.ensures.tail, ap (λ (t : Closed Item). t.put) c.closed-in-loop-link.ensures.tail);
            taken = (ap (λ (t : Closed Item). t.taken) c.closed.ensures.tail, ap (λ (t : Closed Item). t.taken) c.closed-in-loop-link.ensures.tail);
          })
          c.loop-link.invariant.passed);
      between =
          subst (λ (ws : List ClosedPipe). map from_to ws ++ flat_map both_ways (drop (c.loop-link.link-index + 1) c.links-link-items.result.now) ≡ flat_map both_ways c.links-link-items.result.now) (sym ways)
          (between_more c.links-link-items.result.now c.loop-link.link-index _ c.loop-link.ways.items there back (flat_map both_ways c.links-link-items.result.now) c.loop-link-test.true
          (c.closed.ensures.from, c.closed.ensures.to) (c.closed-in-loop-link.ensures.from, c.closed-in-loop-link.ensures.to) c.loop-link.invariant.between);
      each =
          subst (AllByRecursion (IsWay c.args.network.now)) (sym (c.in_ok-push-2.ensures.items ∙ ap (λ (ws : List ClosedPipe). ws ++ back ∷ []) c.in_ok-push.ensures.items))
          (all_more (IsWay c.args.network.now) (c.loop-link.ways.items ++ there ∷ []) back
          (all_more (IsWay c.args.network.now) c.loop-link.ways.items there c.loop-link.invariant.each
          (is_way c.args.network.now there c.in-Some-last_pair.here.out c.in-Some.there.into c.closed.ensures.tail c.closed.ensures.left c.closed.ensures.held (ap (λ (w : Wire). w.room) parts.to_other)))
          (is_way c.args.network.now back c.in-Some.there.out c.in-Some-last_pair.here.into c.closed-in-loop-link.ensures.tail c.closed-in-loop-link.ensures.left c.closed-in-loop-link.ensures.held (ap (λ (w : Wire). w.room) parts.to_one)));
    }

pub returns-clause-passed : goal.returns-clause-passed
returns-clause-passed g c =
    passed_at_last c.args.network.now c.links-link-items.result.now c.loop-link.link-index c.loop-link.ends.items (lanes_by (numbers c.args.network.now.routers) (lanes_in c.args.ends.items)) c.loop-link.ways.items
    c.loop-link-test.false c.loop-link.invariant.dealt c.loop-link.invariant.passed
