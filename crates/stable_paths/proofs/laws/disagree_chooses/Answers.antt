-- Computed.
use Rattle.std.proofs.Common.{refl}
use Rattle.prefix_lanes.specs.Bits.{address_bits}
use Rattle.stable_paths.proofs.laws.disagree_chooses.Goals as goal

pub returns : goal.returns
unfolding address_bits
returns c = (refl, refl, refl, refl, refl, refl)
