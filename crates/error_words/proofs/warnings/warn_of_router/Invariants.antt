-- what was said, and the warnings of the rules that are left, are what is said of all
use Rattle.std.proofs.Common.{◌≡◌, drop, flat_map}
use Rattle.error_words.specs.Warnings.{all_more, rule_warnings, router_warnings}
use Rattle.error_words.proofs.warnings.warn_of_router.Given as goal

abbrev pub invariant-loop-rule : goal.invariant-loop-rule
invariant-loop-rule l =
    all_more (flat_map (rule_warnings l.network l.router.asn) (drop l.rule-index l.router.rules)) l.out
    ≡ all_more (router_warnings l.network l.router) l.fn.out
