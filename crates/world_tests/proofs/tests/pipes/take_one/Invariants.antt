use Rattle.std.proofs.Common.{◌≡◌}
use Rattle.world_tests.proofs.tests.pipes.take_one.Given as goal

abbrev pub invariant-loop : goal.invariant-loop
invariant-loop g l = l.end.pipe ≡ l.fn.end.pipe
