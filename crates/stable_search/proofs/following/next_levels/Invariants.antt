-- no place is lost
use Rattle.std.proofs.Common.{◌≡◌, length}
use Rattle.stable_search.proofs.following.next_levels.Given as goal

abbrev pub invariant-loop-try : goal.invariant-loop-try
invariant-loop-try l = length l.stuck.items ≡ length l.fn.stuck.items
