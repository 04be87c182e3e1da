use Rattle.world_core.proofs.Rising.{members_are_the_routers}
use Rattle.world_core.proofs.laws.members_are_the_routers.Goals as goal

pub returns : goal.returns
returns c = members_are_the_routers c.linked_routers_are_peers.ensures
