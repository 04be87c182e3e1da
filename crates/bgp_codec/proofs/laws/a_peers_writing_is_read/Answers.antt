use Rattle.bgp_codec.proofs.ReadingLemmas.{peers_writing_read}
use Rattle.bgp_codec.proofs.laws.a_peers_writing_is_read.Goals as goal

pub returns : goal.returns
returns c = peers_writing_read (record { masked = c.masking_clears_bits.ensures.bits; canonical = c.masking_clears_bits.ensures.canonical; once = c.a_prefix_is_its_bits.ensures.once })
