use Rattle.ranked_policy.specs.declared.refusal.NetError.TheVariants.{Repeated, UnknownRouter, Limit}
use Rattle.ranked_policy.proofs.Judged.{refused_memory}
use Rattle.ranked_policy.proofs.PlanLemmas.{plan_link}
use Rattle.ranked_policy.proofs.WayLemmas.{joined_ways}
use Rattle.ranked_policy.proofs.builder.NetBuilder.push_link.Goals as goal

pub judge_link-judged-requires-clause-ways : goal.judge_link-judged-requires-clause-ways
judge_link-judged-requires-clause-ways c = rw c.as_slice-2.ensures.value c.self.invariant.1

pub returns-in-Err-reserve-clause-refused : goal.returns-in-Err-reserve-clause-refused
returns-in-Err-reserve-clause-refused c =
    rw (← c.self.view_is) (refused_memory _ (rw (c.as_slice.ensures.value, c.as_slice-2.ensures.value) at c.in_default.ensures))

pub returns-in-Err-join-clause-refused : goal.returns-in-Err-join-clause-refused
returns-in-Err-join-clause-refused c =
    rw (← c.self.view_is) (refused_memory _ (rw (c.as_slice.ensures.value, c.as_slice-2.ensures.value) at c.in_default.ensures))

pub invariant_of-self-2 : goal.invariant_of-self-2
invariant_of-self-2 c =
    let met = rw (c.as_slice.ensures.value, c.as_slice-2.ensures.value) at c.in_default.ensures in
    rw (c.push_reserved.ensures.items, c.in_default-reserve.ensures.items) (
      plan_link _ c.args.a c.args.b c.self.invariant.0 (met Repeated) (met UnknownRouter) (met Limit),
      joined_ways c.self.inside.links.items c.self.inside.ways c.join.new.self (record { one = c.args.a; other = c.args.b }) c.self.invariant.1 c.in_default-join.ensures.joins,
    )

pub returns-clause-met : goal.returns-clause-met
returns-clause-met c = rw (← c.self.view_is) (rw (c.as_slice.ensures.value, c.as_slice-2.ensures.value) at c.in_default.ensures)

pub invariant_of-self : goal.invariant_of-self
invariant_of-self c = rw c.reserve.ensures.items c.self.invariant

pub invariant_of-self-in-Err-join : goal.invariant_of-self-in-Err-join
invariant_of-self-in-Err-join c = rw (c.in_default-reserve.ensures.items, c.in-Err-join.ensures.err) c.self.invariant
