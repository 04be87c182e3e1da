use Rattle.std.proofs.Common.{take, drop, sym, get_or}
use Rattle.std.proofs.lemmas.List.{take-append-drop, get_or_default}
use Rattle.ranked_policy.specs.declared.network.Origin.{Origin}
use Rattle.ranked_policy.specs.declared.refusal.NetError.TheVariants.{Repeated, UnknownRouter, Limit}
use Rattle.ranked_policy.proofs.Judged.{refused_memory}
use Rattle.ranked_policy.proofs.PlanLemmas.{plan_origin}
use Rattle.ranked_policy.proofs.builder.NetBuilder.push_origin.Goals as goal

pub returns-in-Err-clause-refused : goal.returns-in-Err-clause-refused
returns-in-Err-clause-refused c =
    let judged = rw (c.as_slice.ensures.value, c.as_slice-2.ensures.value) at c.in-Err.ensures in
    rw (← c.self.view_is) judged.1

pub returns-in_default-place_of_prefix-clause-refused : goal.returns-in_default-place_of_prefix-clause-refused
returns-in_default-place_of_prefix-clause-refused c =
    let met = rw (c.as_slice.ensures.value, c.as_slice-2.ensures.value) at c.in_default.ensures in
    let found = rw c.as_slice-3.ensures.value at c.in_default-place_of_prefix.ensures.found in
    let origins = c.self.inside.origins.items in
    let place = c.in_default-place_of_prefix.field-0 in
    let any : Origin = record { prefix = c.args.prefix; router = 0 } in
    let here = get_or origins place any in
    absurd (met Repeated (place, here, found.0, get_or_default origins place here any found.0, found.1 any))

pub returns-in-Err-insert-clause-refused : goal.returns-in-Err-insert-clause-refused
returns-in-Err-insert-clause-refused c =
    rw (← c.self.view_is) (refused_memory _ (rw (c.as_slice.ensures.value, c.as_slice-2.ensures.value) at c.in_default.ensures))

pub invariant_of-self-2 : goal.invariant_of-self-2
invariant_of-self-2 c =
    let met = rw (c.as_slice.ensures.value, c.as_slice-2.ensures.value) at c.in_default.ensures in
    let origins = c.self.inside.origins.items in
    let place = c.in-Err-place_of_prefix.place in
    rw c.in_default-insert.ensures.items (
      plan_origin (record { settings = c.self.inside.settings; routers = c.self.inside.routers.items; links = c.self.inside.links.items; origins = origins })
          (take place origins) (drop place origins) c.args.asn c.args.prefix (sym (take-append-drop place origins)) c.self.invariant.0 c.len-bits.ensures.canonical (met UnknownRouter) (met Limit)
          (rw c.as_slice-3.ensures.value at c.in-Err-place_of_prefix.ensures.before) (rw c.as_slice-3.ensures.value at c.in-Err-place_of_prefix.ensures.behind),
      c.self.invariant.1,
    )

pub returns-clause-met : goal.returns-clause-met
returns-clause-met c = rw (← c.self.view_is) (rw (c.as_slice.ensures.value, c.as_slice-2.ensures.value) at c.in_default.ensures)
