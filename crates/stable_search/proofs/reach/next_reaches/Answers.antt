use Rattle.std.proofs.Common.{ℕ, List, get_or, ap, subst, arith}
use Rattle.ranked_policy.specs.declared.network.Link.{Link}
use Rattle.ranked_policy.specs.Plans.{Plan}
use Rattle.stable_search.specs.Reaching.{IsNextReach}
use Rattle.stable_search.proofs.ReachLemmas.{one_known}
use Rattle.stable_search.proofs.reach.next_reaches.Goals as goal

pub loop-place-preserved : goal.loop-place-preserved
loop-place-preserved c =
    let place = c.loop-place.place in
    let next = c.next_reach.result in
    one_known c.each_policy_is_an_order.ensures c.args.instance.now c.network-network.ensures.problem c.args.choosers.now c.requires.routers c.requires.choosers c.args.origin c.loop-place.reaches.items c.loop-place.invariant place next
    (omega (arith, c.loop-place-test.true))
    (λ it st.
    subst (λ (ls : List Link). IsNextReach ls c.args.choosers.now c.args.origin c.loop-place.reaches.items it (get_or c.loop-place.reaches.items place 0) next) (ap (λ (n : Plan). n.links) c.network-network.ensures.value)
    (subst (λ (rs : List ℕ). IsNextReach c.network-network.result.now.links c.args.choosers.now c.args.origin rs it (get_or rs place 0) next) c.as_slice.ensures.value (c.next_reach.ensures it st)))
