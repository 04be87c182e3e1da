-- those passed are
use Rattle.std.proofs.Common.{take}
use Rattle.std.specs.List.{AllByRecursion}
use Rattle.prefix_lanes.specs.Bits.{IsCanonical}
use Rattle.bgp_codec.proofs.prefixes.are_canonical.Given as goal

abbrev pub invariant-loop-prefix : goal.invariant-loop-prefix
invariant-loop-prefix l = AllByRecursion IsCanonical (take l.prefix-index l.prefixes)
