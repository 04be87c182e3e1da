-- no place is lost
use Rattle.std.proofs.Common.{◌≡◌, length}
use Rattle.stable_search.proofs.following.mark_each.Given as goal

abbrev pub invariant-loop-k : goal.invariant-loop-k
invariant-loop-k l = length l.marks.items ≡ length l.fn.marks.items
