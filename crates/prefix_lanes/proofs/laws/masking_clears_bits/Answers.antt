use Rattle.prefix_lanes.proofs.Prefixes.{masked_bits}
use Rattle.prefix_lanes.proofs.laws.masking_clears_bits.Goals as goal

pub returns-clause-bits : goal.returns-clause-bits
returns-clause-bits c = masked_bits
