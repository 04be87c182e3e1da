use Rattle.bgp_framing.proofs.StreamLemmas.{nothing_law}
use Rattle.bgp_framing.proofs.laws.splits_into_nothing.Goals as goal

pub returns : goal.returns
returns c = nothing_law c.header_is_its_front.ensures
