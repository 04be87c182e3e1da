-- By ranks, and by the fall of numbers along a cycle.
use Rattle.wheel_runs.proofs.BoundLemmas.{safe_have_bounds, wheels_have_no_bound}
use Rattle.wheel_runs.proofs.laws.safe_have_bounds.Goals as goal

pub returns : goal.returns
returns c =
    let permits = c.policies_are_tests.ensures.permits in
    let prefers = c.policies_are_tests.ensures.prefers in
    let order = c.each_policy_is_an_order.ensures in
    record { bounds = safe_have_bounds permits prefers order; none = wheels_have_no_bound permits prefers order c.wheels_are_cycles.ensures }
