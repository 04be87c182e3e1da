use Rattle.bgp_codec.proofs.FrameLemmas.{front_law}
use Rattle.bgp_codec.proofs.laws.header_is_its_front.Goals as goal

pub returns : goal.returns
returns c = front_law
