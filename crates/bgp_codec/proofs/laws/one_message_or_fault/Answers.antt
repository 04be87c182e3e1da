use Rattle.bgp_codec.proofs.ReadingLemmas.{fault_law}
use Rattle.bgp_codec.proofs.laws.one_message_or_fault.Goals as goal

pub returns : goal.returns
returns c = fault_law (record { masked = c.masking_clears_bits.ensures.bits; canonical = c.masking_clears_bits.ensures.canonical; once = c.a_prefix_is_its_bits.ensures.once })
