use Rattle.std.proofs.Common.{sym}
use Rattle.router_core.specs.Views.{view_of}
use Rattle.router_core.proofs.Showing.{stands}
use Rattle.router_core.proofs.router.Router.side_to.Goals as goal

pub returns-clause-side : goal.returns-clause-side
returns-clause-side c =
    let r = view_of c.self.inside in
    sym (stands r c.args.self.now c.args.peer c.args.peer_at c.index.result.now c.self.view_is c.peer_stands_at.ensures.found c.index.ensures)
