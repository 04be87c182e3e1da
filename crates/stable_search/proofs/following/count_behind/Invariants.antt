-- no more than the places passed
use Rattle.std.proofs.Common.{◌≤◌}
use Rattle.stable_search.proofs.following.count_behind.Given as goal

abbrev pub invariant-loop-other : goal.invariant-loop-other
invariant-loop-other l = l.count ≤ l.other
