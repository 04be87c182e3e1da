use Rattle.router_core.proofs.Naming.{lists_is}
use Rattle.router_core.proofs.router.Router.originates.Goals as goal

pub returns : goal.returns
returns c = rw (← c.self.view_is) (lists_is c.self.inside.tables.originated c.args.prefix.now c.is_originated.result c.is_originated.ensures)
