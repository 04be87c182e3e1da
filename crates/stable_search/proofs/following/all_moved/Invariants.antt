-- one for each end passed
use Rattle.std.proofs.Common.{◌≡◌, length}
use Rattle.stable_search.proofs.following.all_moved.Given as goal

abbrev pub invariant-loop-end : goal.invariant-loop-end
invariant-loop-end l = length l.moved.items ≡ l.end-index
