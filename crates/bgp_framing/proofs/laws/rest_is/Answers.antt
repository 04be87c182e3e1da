use Rattle.bgp_framing.proofs.StreamLemmas.{rest_law}
use Rattle.bgp_framing.proofs.laws.rest_is.Goals as goal

pub returns : goal.returns
returns c = rest_law c.header_is_its_front.ensures
