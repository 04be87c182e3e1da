use Rattle.wheel_search.proofs.ListLemmas.{same_test}
use Rattle.wheel_search.proofs.listing.is_kept.Goals as goal

pub returns : goal.returns
returns c =
    same_test c.policies_are_tests.ensures.permits c.policies_are_tests.ensures.prefers c.each_policy_is_an_order.ensures c.args.instance.now c.network-network.ensures.problem.problem c.args.router c.args.policy.now
    c.args.rest.now c.permits_onward.result c.requires.policy c.requires.rest c.permits_onward.ensures
