use Rattle.std.proofs.Common.{ap}
use Rattle.ruled_pipe.proofs.Carries.{ends}
use Rattle.ruled_pipe.proofs.ends.PutEnd.is_full.Goals as goal

pub is_full_as-requires-clause-rule : goal.is_full_as-requires-clause-rule
is_full_as-requires-clause-rule g c = ends _ _ (ap (λ v. v.puts) c.self.invariant.1)
