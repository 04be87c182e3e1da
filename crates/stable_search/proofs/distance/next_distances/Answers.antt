use Rattle.std.proofs.Common.{arith}
use Rattle.stable_search.proofs.FixLemmas.{far_next}
use Rattle.stable_search.proofs.distance.next_distances.Goals as goal

pub returns : goal.returns
returns c =
    far_next c.each_policy_is_an_order.ensures c.args.instance.now c.network-network.ensures.problem c.args.choosers.now c.requires.routers c.requires.choosers c.args.distance c.args.distances.now c.loop-place.next.items
    c.requires.low c.requires.far (omega (arith, c.loop-place.invariant.0, c.loop-place-test.false, c.loop-place.auto.place-end))
    (λ i it st. c.loop-place.invariant.1 i it (omega (arith, st.0, c.loop-place-test.false)) st)
