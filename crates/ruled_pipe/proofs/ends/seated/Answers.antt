use Rattle.std.proofs.Common.{ap}
use Rattle.ruled_pipe.proofs.Carries.{begins, forks}
use Rattle.ruled_pipe.proofs.ends.seated.Goals as goal

pub ruled-requires-clause-rule : goal.ruled-requires-clause-rule
ruled-requires-clause-rule g c = begins

pub another-taker-requires-clause-rule : goal.another-taker-requires-clause-rule
another-taker-requires-clause-rule g c = forks _ _ (ap (λ v. v.puts) c.in_ok-line.ensures.3) (ap (λ v. v.takes) c.in_ok-line.ensures.3)
