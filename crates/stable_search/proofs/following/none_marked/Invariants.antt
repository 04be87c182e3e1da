-- one for each place passed
use Rattle.std.proofs.Common.{◌≡◌, length}
use Rattle.stable_search.proofs.following.none_marked.Given as goal

abbrev pub invariant-loop-place : goal.invariant-loop-place
invariant-loop-place l = length l.marks.items ≡ l._place
