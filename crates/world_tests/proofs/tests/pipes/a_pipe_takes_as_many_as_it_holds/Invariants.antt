use Rattle.std.proofs.Common.{◌≡◌}
use Rattle.world_tests.proofs.tests.pipes.a_pipe_takes_as_many_as_it_holds.Given as goal

abbrev pub invariant-loop-item : goal.invariant-loop-item
invariant-loop-item g l = l.put.pipe ≡ l.take.pipe
