use Rattle.std.proofs.Common.{subst}
use Rattle.router_core.specs.Views.{IsSound}
use Rattle.router_core.proofs.Places.{found_here, linked_here}
use Rattle.router_core.proofs.router.Router.peer_stands_at.Goals as goal

pub returns-clause-found : goal.returns-clause-found
returns-clause-found c = found_here c.args.self.now c.args._peer c.args._at (subst IsSound c.self.view_is c.self.invariant) c.requires.stands

pub returns-clause-linked : goal.returns-clause-linked
returns-clause-linked c = linked_here c.args.self.now c.args._peer c.args._at (subst IsSound c.self.view_is c.self.invariant) c.requires.stands
