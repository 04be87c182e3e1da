use Rattle.std.proofs.Common.{◌-◌, ◌≤◌, length, take}
use Rattle.prefix_lanes.specs.Best.{IsBest}
use Rattle.prefix_lanes.proofs.cover_table.longest_in.Given as goal

-- the candidate is the best of the entries so far
abbrev pub invariant-loop-from : goal.invariant-loop-from
invariant-loop-from l = IsBest (take l.from l.entries) l.prefix l.best × (l.from ≤ length l.entries)

abbrev pub decreases-loop-from : goal.decreases-loop-from
decreases-loop-from l = length l.entries - l.from

abbrev pub invariant-loop-place : goal.invariant-loop-place
invariant-loop-place l = IsBest (take l.place l.entries) l.prefix l.best
