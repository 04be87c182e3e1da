-- no place is lost
use Rattle.std.proofs.Common.{◌≡◌, length}
use Rattle.stable_search.proofs.following.marks_behind.Given as goal

abbrev pub invariant-loop-round : goal.invariant-loop-round
invariant-loop-round l = length l.marks.items ≡ l.count
