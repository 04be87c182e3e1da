use Rattle.std.proofs.Common.{◌≡◌, sym, subst, ap, refl, ◌∙◌}
use Rattle.ranked_policy.specs.declared.refusal.NetError.TheVariants.{NotSimple, TooLong, Repeated, UnknownRouter, Limit}
use Rattle.ranked_policy.specs.Plans.{AreRanked, numbers}
use Rattle.ranked_policy.proofs.Judged.{refused_memory}
use Rattle.ranked_policy.proofs.PlanLemmas.{plan_rule_at, ranked_from, changed}
use Rattle.ranked_policy.proofs.Reached.{absent}
use Rattle.ranked_policy.proofs.builder.NetBuilder.push_rule.Goals as goal

pub returns-in-Err-clause-refused : goal.returns-in-Err-clause-refused
returns-in-Err-clause-refused c =
    let judged = rw (c.as_slice.ensures.value, c.as_slice-2.ensures.value) at c.in-Err.ensures in
    rw (← c.self.view_is) judged.1

pub returns-in_default-place_of_router-clause-refused : goal.returns-in_default-place_of_router-clause-refused
returns-in_default-place_of_router-clause-refused c =
    let met = rw (c.as_slice.ensures.value, c.as_slice-2.ensures.value) at c.in_default.ensures in
    absurd (absent c.self.inside.routers.items c.in_default-place_of_router.field-0 c.args.asn (rw c.as_slice-3.ensures.value at c.in_default-place_of_router.ensures.before)
    (rw c.as_slice-3.ensures.value at c.in_default-place_of_router.ensures.behind) (met UnknownRouter).0)

pub returns-in-Err-push-clause-refused : goal.returns-in-Err-push-clause-refused
returns-in-Err-push-clause-refused c =
    rw (← c.self.view_is) (refused_memory _ (rw (c.as_slice.ensures.value, c.as_slice-2.ensures.value) at c.in_default.ensures))

pub push-requires : goal.push-requires
push-requires c =
    let met = rw (c.as_slice.ensures.value, c.as_slice-2.ensures.value) at c.in_default.ensures in
    let found = rw c.as_slice-3.ensures.value at c.in-Ok.ensures.found in
    let r = c.index_mut.result.now in
    let room = (met Limit).1 c.in-Ok.place r found.0 (found.1 r) in
    rw (← c.index_mut.ensures.value) at room

pub invariant_of-self-2 : goal.invariant_of-self-2
invariant_of-self-2 c =
    let met = rw (c.as_slice.ensures.value, c.as_slice-2.ensures.value) at c.in_default.ensures in
    let found = rw c.as_slice-3.ensures.value at c.in-Ok.ensures.found in
    let routers = c.self.inside.routers.items in
    let r = c.index_mut.result.now in
    let paths = c.args.paths.items in
    let is : r.asn ≡ c.args.asn = ap (λ x. x.asn) c.index_mut.ensures.value ∙ found.1 r in
    let fresh = (met Repeated).1 c.in-Ok.place r found.0 (found.1 r) in
    let room = (met Limit).1 c.in-Ok.place r found.0 (found.1 r) in
    let ranked : AreRanked (numbers routers) c.args.asn paths =
    ranked_from (numbers routers) c.args.asn paths (met NotSimple) (met TooLong) (met Repeated).0 (met UnknownRouter).1 (met Limit).0 in
    rw (c.in_default-push.ensures.ok, c.from_vec-paths.ensures) (
      plan_rule_at (record { settings = c.self.inside.settings; routers = routers; links = c.self.inside.links.items; origins = c.self.inside.origins.items }) c.in-Ok.place r c.args.prefix paths found.0
          c.index_mut.ensures.value c.self.invariant.0 c.len-bits.ensures.canonical (rw (← c.index_mut.ensures.value) at fresh) (rw (← c.index_mut.ensures.value) at room)
          (subst (λ u. AreRanked (numbers routers) u paths) (sym is) ranked),
      c.self.invariant.1,
    )

pub returns-clause-ok : goal.returns-clause-ok
returns-clause-ok c =
    let found = rw c.as_slice-3.ensures.value at c.in-Ok.ensures.found in
    let r = c.index_mut.result.now in
    let is : r.asn ≡ c.args.asn = ap (λ x. x.asn) c.index_mut.ensures.value ∙ found.1 r in
    rw (← c.self.view_is, c.in_default-push.ensures.ok, c.from_vec-paths.ensures) (record {
      routers = (r, is, changed c.self.inside.routers.items c.in-Ok.place r _ found.0 c.index_mut.ensures.value);
      settings = refl;
      links = refl;
      origins = refl;
    })

pub returns-clause-met : goal.returns-clause-met
returns-clause-met c = rw (← c.self.view_is) (rw (c.as_slice.ensures.value, c.as_slice-2.ensures.value) at c.in_default.ensures)
