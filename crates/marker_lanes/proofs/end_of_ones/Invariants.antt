use Rattle.std.proofs.Common.{◌≡◌, ◌==◌, ◌+◌, ◌-◌, ◌≤◌, length, drop}
use Rattle.std.specs.List.{prefix_len}
use Rattle.marker_lanes.proofs.end_of_ones.Given as goal

abbrev pub invariant-loop-at : goal.invariant-loop-at
invariant-loop-at l =
    (l.from + prefix_len (λ octet. octet == 255) (drop l.from l.octets) ≡ l.at + prefix_len (λ octet. octet == 255) (drop l.at l.octets)) × (l.at ≤ length l.octets)

abbrev pub decreases-loop-at : goal.decreases-loop-at
decreases-loop-at l = length l.octets - l.at
