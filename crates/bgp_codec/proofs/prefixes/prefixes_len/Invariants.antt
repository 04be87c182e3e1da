-- what was passed is counted, as far as a `usize` counts
use Rattle.std.proofs.Common.{◌≡◌, ◌-◌, ◌^◌, length, min, take}
use Rattle.std.specs.List.{flat_map}
use Rattle.bgp_codec.specs.Updates.{prefix_octets}
use Rattle.bgp_codec.proofs.prefixes.prefixes_len.Given as goal

abbrev pub invariant-loop-prefix : goal.invariant-loop-prefix
invariant-loop-prefix l = l.len ≡ min (2 ^ 64 - 1) (length (flat_map prefix_octets (take l.prefix-index l.prefixes)))
