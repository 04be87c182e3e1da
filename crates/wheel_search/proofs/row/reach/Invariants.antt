-- the paths passed go no further
use Rattle.std.proofs.Common.{◌≤◌}
use Rattle.wheel_search.proofs.RowLemmas.{AreReached}
use Rattle.wheel_search.proofs.row.reach.Given as goal

abbrev pub invariant-loop-path : goal.invariant-loop-path
invariant-loop-path l = AreReached l.instance l.longest l.router l.paths l.path-index × (l.least ≤ l.longest)
