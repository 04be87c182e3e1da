use Rattle.std.proofs.Common.{◌-◌, ◌≤◌, length}
use Rattle.prefix_lanes.proofs.MaskedSoFar.{Masked}
use Rattle.prefix_lanes.proofs.mask.mask_all.Given as goal

-- those below the place are masked, the others as they were
abbrev pub invariant-loop-at : goal.invariant-loop-at
invariant-loop-at l = Masked l.initial.words l.words l.lens l.at × (l.at ≤ length l.lens)

abbrev pub decreases-loop-at : goal.decreases-loop-at
decreases-loop-at l = length l.lens - l.at

abbrev pub invariant-loop-i : goal.invariant-loop-i
invariant-loop-i l = Masked l.fn.words l.words l.lens l.i
