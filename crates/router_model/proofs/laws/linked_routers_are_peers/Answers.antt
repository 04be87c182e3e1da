-- By the links of the network.
use Rattle.router_model.proofs.Peers.{linked_routers_are_peers}
use Rattle.router_model.proofs.laws.linked_routers_are_peers.Goals as goal

pub returns : goal.returns
returns c = linked_routers_are_peers
