use Rattle.std.proofs.Common.{ap, ◌∙◌, arith}
use Rattle.prefix_lanes.specs.Bits.{leading_mask}
use Rattle.prefix_lanes.proofs.Found.{columns_set}
use Rattle.prefix_lanes.proofs.cover_table.CoverTable.push.Goals as goal

pub invariant_of-self : goal.invariant_of-self
invariant_of-self c = (
  omega (arith, c.if-self-ge-CAPACITY.false),
  columns_set c.self.inside.places c.self.inside.addrs c.self.inside.masks c.self.inside.count c.args.prefix c.addr.result c.mask_word.result c.self.invariant.1 c.addr.ensures.canonical c.addr.ensures.value
      (c.mask_word.ensures ∙ ap leading_mask c.len.ensures.value),
)
