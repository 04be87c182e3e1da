use Rattle.net_text.proofs.DraftLemmas.{with_router_is}
use Rattle.net_text.proofs.network_so_far.NetworkSoFar.add_router.Goals as goal

pub returns-in-Ok-clause-ok : goal.returns-in-Ok-clause-ok
returns-in-Ok-clause-ok c = with_router_is c.args.self.now c.push_router.new.self c.args.asn c.args.id c.settings-plan.ensures.plan c.in-Ok.ensures.ok
