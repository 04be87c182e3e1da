use Rattle.bgp_framing.proofs.StreamLemmas.{first_law}
use Rattle.bgp_framing.proofs.laws.next_is_first.Goals as goal

pub returns : goal.returns
returns c = first_law c.header_is_its_front.ensures
