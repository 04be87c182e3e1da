use Rattle.std.proofs.Common.{take, drop, sym}
use Rattle.std.proofs.lemmas.List.{take-append-drop}
use Rattle.ranked_policy.specs.declared.refusal.NetError.TheVariants.{Repeated, Limit, BadNumber}
use Rattle.ranked_policy.proofs.Judged.{refused_memory}
use Rattle.ranked_policy.proofs.PlanLemmas.{plan_router}
use Rattle.ranked_policy.proofs.Reached.{some_router}
use Rattle.ranked_policy.proofs.builder.NetBuilder.push_router.Goals as goal

pub returns-in_default-place_of_router-clause-refused : goal.returns-in_default-place_of_router-clause-refused
returns-in_default-place_of_router-clause-refused c =
    let met = rw c.as_slice.ensures.value at c.in_default.ensures in
    let found = rw c.as_slice-2.ensures.value at c.in_default-place_of_router.ensures.found in
    absurd ((met Repeated c.in_default-place_of_router.field-0 some_router found.0).0 (found.1 some_router))

pub returns-in-Err-insert-clause-refused : goal.returns-in-Err-insert-clause-refused
returns-in-Err-insert-clause-refused c = rw (← c.self.view_is) (refused_memory _ (rw c.as_slice.ensures.value at c.in_default.ensures))

pub invariant_of-self-2 : goal.invariant_of-self-2
invariant_of-self-2 c =
    let met = rw c.as_slice.ensures.value at c.in_default.ensures in
    let routers = c.self.inside.routers.items in
    let place = c.in-Err-place_of_router.place in
    rw (c.in_default-insert.ensures.items, c.new-rules.ensures) (
      plan_router (record { settings = c.self.inside.settings; routers = routers; links = c.self.inside.links.items; origins = c.self.inside.origins.items })
          (take place routers) (drop place routers) c.args.asn c.args.id (sym (take-append-drop place routers)) c.self.invariant.0 (met Repeated) (met Limit) (met BadNumber)
          (rw c.as_slice-2.ensures.value at c.in-Err-place_of_router.ensures.before) (rw c.as_slice-2.ensures.value at c.in-Err-place_of_router.ensures.behind),
      c.self.invariant.1,
    )

pub returns-clause-met : goal.returns-clause-met
returns-clause-met c = rw (← c.self.view_is) (rw c.as_slice.ensures.value at c.in_default.ensures)
