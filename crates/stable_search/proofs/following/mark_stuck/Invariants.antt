-- no place is lost
use Rattle.std.proofs.Common.{◌≡◌, length}
use Rattle.stable_search.proofs.following.mark_stuck.Given as goal

abbrev pub invariant-loop-place : goal.invariant-loop-place
invariant-loop-place l = length l.stuck.items ≡ length l.fn.stuck.items
