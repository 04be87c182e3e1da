-- what was passed is counted, as far as a `usize` counts
use Rattle.std.proofs.Common.{◌≡◌, ◌-◌, ◌^◌, length, min, take}
use Rattle.std.specs.List.{flat_map}
use Rattle.bgp_codec.specs.Opens.{cap_octets}
use Rattle.bgp_codec.proofs.open.caps_len.Given as goal

abbrev pub invariant-loop-cap : goal.invariant-loop-cap
invariant-loop-cap l = l.len ≡ min (2 ^ 64 - 1) (length (flat_map cap_octets (take l.cap-index l.caps)))
