use Rattle.std.proofs.Common.{Some, None, subst}
use Rattle.prefix_lanes.specs.Covering.{IsLongest}
use Rattle.ranked_policy.proofs.Longest.{no_rule, rule_at}
use Rattle.ranked_policy.proofs.rules.Rules.longest.Goals as goal

pub returns-in-Some : goal.returns-in-Some
returns-in-Some c =
    rw (← c.self.view_is) (rule_at c.self.inside.rules.items c.args.prefix.now c.in-Some.place c.index.result.now c.index.ensures
    (subst (λ ps. IsLongest ps c.args.prefix.now (Some c.in-Some.place)) c.self.invariant c.in-Some.ensures))

pub returns-in-None : goal.returns-in-None
returns-in-None c = rw (← c.self.view_is) (no_rule c.self.inside.rules.items c.args.prefix.now (subst (λ ps. IsLongest ps c.args.prefix.now None) c.self.invariant c.in-None.ensures))
