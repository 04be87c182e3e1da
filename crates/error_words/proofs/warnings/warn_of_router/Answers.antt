use Rattle.std.proofs.Common.{◌≡◌, ◌<◌, List, length, get_or, subst}
use Rattle.ranked_policy.specs.declared.network.RankRule.{RankRule}
use Rattle.error_words.specs.Warnings.{rule_warnings}
use Rattle.error_words.proofs.WarningLemmas.{more_on}
use Rattle.error_words.proofs.warnings.warn_of_router.Goals as goal

pub loop-rule-preserved : goal.loop-rule-preserved
loop-rule-preserved c =
    let router = c.args.router.now in
    let i = c.loop-rule.rule-index in
    let x = c.rule-item.result in
    let same = c.as_slice-rule-items.ensures in
    let lt = subst (λ (xs : List RankRule). i < length xs) same c.loop-rule-test.true in
    let at = subst (λ (xs : List RankRule). x ≡ get_or xs i x) same c.rule-item.is in
    more_on (rule_warnings c.args.network.now router.asn) router.rules i x c.loop-rule.out c.warn_of_rule.new.out _ lt at c.in_ok-warn_of_rule.ensures c.loop-rule.invariant
