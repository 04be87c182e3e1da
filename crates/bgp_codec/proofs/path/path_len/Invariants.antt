-- what was passed is counted, as far as a `usize` counts
use Rattle.std.proofs.Common.{◌≡◌, ◌-◌, ◌^◌, length, min, take}
use Rattle.bgp_codec.specs.Updates.{path_octets}
use Rattle.bgp_codec.proofs.path.path_len.Given as goal

abbrev pub invariant-loop-segment : goal.invariant-loop-segment
invariant-loop-segment l = l.len ≡ min (2 ^ 64 - 1) (length (path_octets l.fn.width (take l.segment-index l.path)))
