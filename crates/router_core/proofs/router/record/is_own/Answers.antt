use Rattle.router_core.proofs.Naming.{lists_is}
use Rattle.router_core.proofs.router.record.is_own.Goals as goal

pub returns : goal.returns
returns c = lists_is c.args.tables.now.originated c.args.prefix.now c.is_originated_at.result c.is_originated_at.ensures
