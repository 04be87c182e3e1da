-- what was passed is counted, as far as a `usize` counts
use Rattle.std.proofs.Common.{◌≡◌, ◌-◌, ◌^◌, length, min, take, filter}
use Rattle.std.specs.List.{flat_map}
use Rattle.bgp_codec.specs.Updates.{raw_octets, stands}
use Rattle.bgp_codec.proofs.attr_writing.raws_len.Given as goal

abbrev pub invariant-loop-raw : goal.invariant-loop-raw
invariant-loop-raw l = l.len ≡ min (2 ^ 64 - 1) (length (flat_map raw_octets (filter (stands l.before) (take l.raw-index l.raws))))
