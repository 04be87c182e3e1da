use Rattle.std.proofs.Common.{◌≡◌}
use Rattle.world_tests.proofs.tests.pipes.take_all.Given as goal

abbrev pub invariant-loop-number : goal.invariant-loop-number
invariant-loop-number g l = l.end.pipe ≡ l.fn.end.pipe
