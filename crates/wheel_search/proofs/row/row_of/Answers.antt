use Rattle.std.proofs.Common.{length}
use Rattle.wheel_search.proofs.RowLemmas.{is_row}
use Rattle.wheel_search.proofs.row.row_of.Goals as goal

pub returns-clause-row : goal.returns-clause-row
returns-clause-row c =
    (is_row c.policies_are_tests.ensures.permits c.policies_are_tests.ensures.prefers c.each_policy_is_an_order.ensures c.the_longest_rule_is_one.ensures c.args.instance.now c.network-network.ensures.problem.problem
    (length c.args.levels.now) (record { seat = c.args.seat.now; own = c.in_ok-own.own }) c.requires.seat c.requires.within c.in_ok-own.ensures).0

pub returns-clause-whole : goal.returns-clause-whole
returns-clause-whole c =
    (is_row c.policies_are_tests.ensures.permits c.policies_are_tests.ensures.prefers c.each_policy_is_an_order.ensures c.the_longest_rule_is_one.ensures c.args.instance.now c.network-network.ensures.problem.problem
    (length c.args.levels.now) (record { seat = c.args.seat.now; own = c.in_ok-own.own }) c.requires.seat c.requires.within c.in_ok-own.ensures).1
