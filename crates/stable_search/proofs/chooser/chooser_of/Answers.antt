use Rattle.std.proofs.Common.{◌≡◌, subst, sym}
use Rattle.std.specs.Prelude.{◌↔◌, IsTrue}
use Rattle.ranked_policy.specs.Plans.{Plan}
use Rattle.ranked_policy.specs.Policies.{IsTableOf, Originates}
use Rattle.ranked_policy.specs.Choices.{Speaks}
use Rattle.stable_paths.proofs.TableLemmas.{origin_here}
use Rattle.stable_search.proofs.chooser.chooser_of.Goals as goal

pub returns-clause-chooser : goal.returns-clause-chooser
returns-clause-chooser c =
    let p = c.args.instance.now in
    let r = c.args.router in
    let net = c.network-network.result.now in
    let table = c.unwrap.result in
    let flag = c.is_origin-is_origin.result in
    let en : net ≡ p.net = c.network-network.ensures.value in
    let ep : c.prefix-prefix.result.now ≡ p.prefix = c.prefix-prefix.ensures.value in
    let of : IsTableOf p.net r table = subst (λ (n : Plan). IsTableOf n r table) en (rw c.unwrap.ensures at c.policies.ensures.value) in
    let speaks : Speaks c.for_prefix-policy.result table p.prefix =
    subst (Speaks c.for_prefix-policy.result table) ep (record { permits = c.for_prefix-policy.ensures.permits; prefers = c.for_prefix-policy.ensures.prefers }) in
    let here = origin_here p table net c.prefix-prefix.result.now r en ep (sym of.0) of.1 in
    let origin : IsTrue flag ↔ Originates table p.prefix table.router = (λ t. here.0 (c.is_origin-is_origin.ensures.0 t), λ o. c.is_origin-is_origin.ensures.1 (here.1 o)) in
    record { table = table; of = of; origin = origin; speaks = speaks }
