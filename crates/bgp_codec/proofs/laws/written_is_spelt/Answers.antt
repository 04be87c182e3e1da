use Rattle.bgp_codec.proofs.ReadingLemmas.{written_spelt}
use Rattle.bgp_codec.proofs.laws.written_is_spelt.Goals as goal

pub returns : goal.returns
returns c = written_spelt
