-- the place is one of those passed, or the first
use Rattle.std.proofs.Common.{◌≤◌}
use Rattle.wheel_search.proofs.rims.start_of.Given as goal

abbrev pub invariant-loop-at : goal.invariant-loop-at
invariant-loop-at l = l.start ≤ l.at
