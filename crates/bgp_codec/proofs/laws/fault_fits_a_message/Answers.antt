use Rattle.bgp_codec.proofs.ReadingLemmas.{fits_law}
use Rattle.bgp_codec.proofs.laws.fault_fits_a_message.Goals as goal

pub returns : goal.returns
returns c = fits_law
