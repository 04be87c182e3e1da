use Rattle.bgp_codec.proofs.WritingLemmas.{length-written}
use Rattle.bgp_codec.proofs.laws.written_has_a_header.Goals as goal

pub returns : goal.returns
returns c = length-written
