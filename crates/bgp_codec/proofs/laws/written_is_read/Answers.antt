use Rattle.bgp_codec.proofs.ReadingLemmas.{written_read}
use Rattle.bgp_codec.proofs.laws.written_is_read.Goals as goal

pub returns : goal.returns
returns c = written_read (record { masked = c.masking_clears_bits.ensures.bits; canonical = c.masking_clears_bits.ensures.canonical; once = c.a_prefix_is_its_bits.ensures.once })
