-- what was passed is counted, as far as a `usize` counts
use Rattle.std.proofs.Common.{◌≡◌, ◌-◌, ◌^◌, length, min, take}
use Rattle.std.specs.List.{flat_map}
use Rattle.bgp_codec.specs.Opens.{param_octets}
use Rattle.bgp_codec.proofs.open.params_len.Given as goal

abbrev pub invariant-loop-caps : goal.invariant-loop-caps
invariant-loop-caps l = l.len ≡ min (2 ^ 64 - 1) (length (flat_map param_octets (take l.caps-index l.params)))
