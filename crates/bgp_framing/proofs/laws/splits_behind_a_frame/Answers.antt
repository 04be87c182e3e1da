use Rattle.bgp_framing.proofs.StreamLemmas.{behind_law}
use Rattle.bgp_framing.proofs.laws.splits_behind_a_frame.Goals as goal

pub returns : goal.returns
returns c = behind_law c.header_is_its_front.ensures
