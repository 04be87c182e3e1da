use Rattle.std.proofs.Common.{ap}
use Rattle.ruled_pipe.proofs.Carries.{drains, holds}
use Rattle.ruled_pipe.proofs.tail.Tail.next.Goals as goal

pub pop_as-requires-clause-rule : goal.pop_as-requires-clause-rule
pop_as-requires-clause-rule g c = (drains _ _ (ap (λ v. v.puts) c.self.invariant.1) (ap (λ v. v.takes) c.self.invariant.1), holds _ _ (ap (λ v. v.puts) c.self.invariant.1) (ap (λ v. v.takes) c.self.invariant.1))
