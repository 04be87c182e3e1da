use Rattle.std.proofs.Common.{ap, sym, ◌∙◌}
use Rattle.bgp_values.specs.declared.width.Width.{Width}
use Rattle.bgp_codec.specs.AsNumbers.{numbers_of}
use Rattle.bgp_codec.proofs.PartLemmas.{four_first}
use Rattle.bgp_codec.proofs.parts.NumberOctets.next.Goals as goal

pub returns-in-Four-len4-up : goal.returns-in-Four-len4-up
returns-in-Four-len4-up c =
    rw (c.from_be_bytes-in-Four-len4-up.ensures, c.in-Four-len4-up.is-0)
    (sym c.self.view_is ∙ ap (λ (width : Width). numbers_of width c.self.inside.octets.now) c.in-Four-len4-up.is-0 ∙ four_first c.self.inside.octets.now c.in-Four-len4-up.len_at_least)
