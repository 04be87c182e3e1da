use Rattle.net_text.proofs.DraftLemmas.{with_rule_is}
use Rattle.net_text.proofs.network_so_far.NetworkSoFar.add_rule.Goals as goal

pub returns-in-Ok-clause-ok : goal.returns-in-Ok-clause-ok
returns-in-Ok-clause-ok c = with_rule_is c.args.self.now c.push_rule.new.self c.args.asn c.args.prefix c.args.paths.items c.settings-plan.ensures.plan c.in-Ok.ensures.ok
