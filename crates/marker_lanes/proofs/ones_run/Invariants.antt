-- what was passed is all ones: the run of the whole list is that many and the run of what is left
use Rattle.std.proofs.Common.{◌≡◌, ◌==◌, ◌+◌, ◌-◌, ◌≤◌, length, drop}
use Rattle.std.specs.List.{prefix_len}
use Rattle.marker_lanes.proofs.ones_run.Given as goal

abbrev pub invariant-loop-at : goal.invariant-loop-at
invariant-loop-at l = (prefix_len (λ octet. octet == 255) l.octets ≡ l.at + prefix_len (λ octet. octet == 255) (drop l.at l.octets)) × (l.at ≤ length l.octets)

abbrev pub decreases-loop-at : goal.decreases-loop-at
decreases-loop-at l = length l.octets - l.at
