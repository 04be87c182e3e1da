use Rattle.std.proofs.Common.{◌≡◌, ap, subst, sym, ◌∙◌}
use Rattle.std.specs.Prelude.{Some, None}
use Rattle.prefix_lanes.specs.Bits.{PrefixView}
use Rattle.ranked_policy.specs.Plans.{Plan}
use Rattle.ranked_policy.specs.Tests.{rule_for}
use Rattle.ranked_policy.specs.Policies.{IsTableOf}
use Rattle.stable_paths.proofs.TableLemmas.{origin_here}
use Rattle.wheel_search.proofs.row.kind_of.Goals as goal

pub returns-in-Some : goal.returns-in-Some
returns-in-Some c =
    let p = c.args.instance.now in
    let r = c.args.router in
    let table = c.unwrap-table.result in
    let net = c.network-network.result.now in
    let en : net ≡ p.net = c.network-network.ensures.value in
    let of : IsTableOf p.net r table = subst (λ (n : Plan). IsTableOf n r table) en (rw c.unwrap-table.ensures at c.policies.ensures.value) in
    let here = origin_here p table net c.prefix.result.now r en c.prefix.ensures.value (sym of.0) of.1 in
    let found : rule_for table.rules p.prefix ≡ Some c.in-Some.rule.now = ap (λ (q : PrefixView). rule_for table.rules q) (sym c.prefix-2.ensures.value) ∙ c.in-Some.ensures in
    record {
      table = table;
      of = of;
      kind = ((λ o. absurd (cc (c.if-is_origin.false, c.is_origin.ensures.1 (here.1 o)))), (c.in-Some.rule.now, found, sym c.as_slice.ensures));
    }

pub returns-in-None : goal.returns-in-None
returns-in-None c =
    let p = c.args.instance.now in
    let r = c.args.router in
    let table = c.unwrap-table.result in
    let net = c.network-network.result.now in
    let en : net ≡ p.net = c.network-network.ensures.value in
    let of : IsTableOf p.net r table = subst (λ (n : Plan). IsTableOf n r table) en (rw c.unwrap-table.ensures at c.policies.ensures.value) in
    let here = origin_here p table net c.prefix.result.now r en c.prefix.ensures.value (sym of.0) of.1 in
    let found : rule_for table.rules p.prefix ≡ None = ap (λ (q : PrefixView). rule_for table.rules q) (sym c.prefix-2.ensures.value) ∙ c.in-None.ensures in
    record { table = table; of = of; kind = ((λ o. absurd (cc (c.if-is_origin.false, c.is_origin.ensures.1 (here.1 o)))), found) }
