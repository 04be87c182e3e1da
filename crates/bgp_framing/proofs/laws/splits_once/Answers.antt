use Rattle.bgp_framing.proofs.StreamLemmas.{once_law}
use Rattle.bgp_framing.proofs.laws.splits_once.Goals as goal

pub returns : goal.returns
returns c = once_law c.header_is_its_front.ensures
