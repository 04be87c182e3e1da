use Rattle.bgp_framing.proofs.StreamLemmas.{pieces_law}
use Rattle.bgp_framing.proofs.laws.splits_in_pieces.Goals as goal

pub returns : goal.returns
returns c = pieces_law
