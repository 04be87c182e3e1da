use Rattle.std.proofs.Common.{Bor}
use Rattle.std.proofs.lemmas.Bool.{false≢true}
use Rattle.ranked_policy.specs.declared.network.RankRule.{RankRule}
use Rattle.ranked_policy.specs.Policies.{Table}
use Rattle.stable_engine.proofs.AlikeRules.{table_at, by_rules, by_none, first_alone}
use Rattle.stable_engine.proofs.alike.have_one_rule.Goals as goal

pub returns-in_default : goal.returns-in_default
returns-in_default c =
    by_none (λ (x : Bor RankRule). x.now) c.args.router.now.rules c.args.one.now c.args.other.now c.in_default.ensures c.longest-in_default.result c.longest-in_default.ensures c.is_none.result c.is_none.ensures

pub returns-in-Some-longest : goal.returns-in-Some-longest
returns-in-Some-longest c =
    let net = c.args.network.now in
    let router = c.args.router.now in
    let table : Table = record { router = router.asn; rules = router.rules; origins = net.origins } in
    by_rules c.the_longest_rule_is_one.ensures table (table_at net c.origins-origins.ensures.network router c.requires) c.args.one.now c.args.other.now c.in-Some.rule.now c.in-Some-longest.same.now c.in-Some.ensures c.in-Some-longest.ensures
    c.equals.result c.equals.ensures

pub returns-in-None : goal.returns-in-None
returns-in-None c = (
  λ t. absurd (false≢true t),
  λ h. absurd (first_alone c.args.router.now.rules c.args.one.now c.args.other.now c.in-Some.rule.now c.in-Some.ensures c.in-None.ensures h),
)
