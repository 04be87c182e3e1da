use Rattle.net_text.proofs.DraftLemmas.{with_origin_is}
use Rattle.net_text.proofs.network_so_far.NetworkSoFar.add_origin.Goals as goal

pub returns-in-Ok-clause-ok : goal.returns-in-Ok-clause-ok
returns-in-Ok-clause-ok c = with_origin_is c.args.self.now c.push_origin.new.self c.args.asn c.args.prefix c.settings-plan.ensures.plan c.in-Ok.ensures.ok
