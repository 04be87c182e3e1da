use Rattle.std.proofs.Common.{sym, ap, ◌∙◌, arith}
use Rattle.bgp_codec.specs.Parts.{values_of, path_items}
use Rattle.bgp_codec.proofs.PartLemmas.{items_bound}
use Rattle.bgp_codec.proofs.parts.PathOctets.most_items.Goals as goal

pub returns : goal.returns
returns c =
    let reads = c.self.invariant in
    let size = ap path_items (sym c.self.view_is ∙ ap values_of reads.1) in
    omega (arith, items_bound c.self.inside.width c.self.inside.octets.now reads.0 reads.1, size)
