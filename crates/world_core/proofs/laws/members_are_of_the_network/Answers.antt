use Rattle.world_core.proofs.Members.{members_are_of_the_network}
use Rattle.world_core.proofs.laws.members_are_of_the_network.Goals as goal

pub returns : goal.returns
returns c = λ g net ms are. members_are_of_the_network g net ms are
