use Rattle.std.proofs.Common.{sym, subst, inl, inr}
use Rattle.wheel_search.specs.Waits.{AreWithin, AllFree}
use Rattle.wheel_search.proofs.GraphLemmas.{within, no_cycle}
use Rattle.wheel_search.proofs.search.wheel_of.Goals as goal

pub let_all_go-requires : goal.let_all_go-requires
let_all_go-requires c =
    let is = c.network-network.ensures.problem.problem in
    subst AreWithin (sym c.as_slice.ensures.value) (within c.each_policy_is_an_order.ensures c.args.instance.now is c.args.rows.now c.requires c.in_ok-waits.waits.items c.in_ok-waits.ensures)

pub returns-in-None : goal.returns-in-None
returns-in-None c =
    let p = c.args.instance.now in
    let is = c.network-network.ensures.problem.problem in
    let all : AllFree c.in_ok-waits.waits.items = subst AllFree c.as_slice.ensures.value (rw c.in-None.is at c.in_ok-let_all_go.ensures) in
    elim (c.safe_or_wheel.ensures p is) [
      | inl safe ↦ safe
      | inr wheel ↦ absurd (no_cycle c.each_policy_is_an_order.ensures p is c.args.rows.now c.requires c.in_ok-waits.waits.items c.in_ok-waits.ensures c.policies_are_tests.ensures.prefers c.the_longest_rule_is_one.ensures all ((c.wheels_are_cycles.ensures p is).0 wheel))
    ]
