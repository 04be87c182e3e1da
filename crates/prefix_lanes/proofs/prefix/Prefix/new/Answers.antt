use Rattle.std.proofs.Common.{arith}
use Rattle.prefix_lanes.proofs.Prefixes.{masked_first}
use Rattle.prefix_lanes.proofs.prefix.Prefix.new.Goals as goal

pub returns-clause-first_bits : goal.returns-clause-first_bits
returns-clause-first_bits c = rw c.mask.ensures (masked_first c.args.addr c.args.len (omega arith))
