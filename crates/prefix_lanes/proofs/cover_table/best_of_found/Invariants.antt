use Rattle.std.proofs.Common.{◌-◌, ◌+◌}
use Rattle.prefix_lanes.proofs.Found.{Left}
use Rattle.prefix_lanes.proofs.cover_table.best_of_found.Given as goal

-- the candidate is the best of those passed, and what is left is found of those behind them
abbrev pub invariant-loop-left : goal.invariant-loop-left
invariant-loop-left l = Left l.entries l.prefix l.from l.at l.left l.best

abbrev pub decreases-loop-left : goal.decreases-loop-left
decreases-loop-left l = l.from + 8 - l.at
