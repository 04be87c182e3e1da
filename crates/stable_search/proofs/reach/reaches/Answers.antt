use Rattle.stable_search.proofs.ReachLemmas.{bounds}
use Rattle.stable_search.proofs.reach.reaches.Goals as goal

pub returns : goal.returns
returns c =
    bounds c.each_policy_is_an_order.ensures c.args.instance.now c.network-network.ensures.problem c.args.choosers.now c.requires.routers c.requires.choosers c.unwrap_or-origin.result c.loop-round.reaches.items c.loop-round.invariant
