use Rattle.std.proofs.Common.{ap}
use Rattle.ruled_pipe.proofs.Carries.{merges}
use Rattle.ruled_pipe.proofs.tail.close.Goals as goal

pub absorb-requires-clause-rule : goal.absorb-requires-clause-rule
absorb-requires-clause-rule g c = merges _ _ _ _ (ap (λ v. v.puts) c.put.invariant.1) (ap (λ v. v.takes) c.take.invariant.1)
