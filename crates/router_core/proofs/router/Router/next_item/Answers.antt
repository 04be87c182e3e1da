use Rattle.router_core.proofs.Serving.{shows_no_peer}
use Rattle.router_core.proofs.router.Router.next_item.Goals as goal

pub returns-in_default : goal.returns-in_default
returns-in_default c = λ g e. shows_no_peer g c.args.self.now c.args.peer e c.in_default.ensures.none
