use Rattle.std.proofs.Common.{arith}
use Rattle.bgp_codec.specs.Faults.{reading}
use Rattle.bgp_codec.proofs.ReadingLemmas.{is_spelt}
use Rattle.bgp_codec.proofs.DecodingLemmas.{gives_of}
use Rattle.bgp_codec.proofs.reading.decode.Goals as goal

pub returns-clause-spelt : goal.returns-clause-spelt
returns-clause-spelt c =
    is_spelt
    (record { masked = c.masking_clears_bits.ensures.bits; canonical = c.masking_clears_bits.ensures.canonical; once = c.a_prefix_is_its_bits.ensures.once })
    c.args.rule.now c.args.frame.now c.decode_by_type.result (λ i. omega (arith, c.type_inv.frame i)) c.requires
    (gives_of c.decode_by_type.result (reading c.args.rule.now c.args.frame.now) c.decode_by_type.ensures.decodes)
