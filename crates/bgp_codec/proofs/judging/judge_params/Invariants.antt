-- what was passed stands before what is left to read, and says this number first
use Rattle.std.proofs.Common.{length}
use Rattle.bgp_codec.specs.Opens.{param_at, said_by}
use Rattle.bgp_codec.proofs.JudgingLemmas.{Saying}
use Rattle.bgp_codec.proofs.judging.judge_params.Given as goal

abbrev pub invariant-params : goal.invariant-params
invariant-params l = Saying param_at said_by l.said l.octets l.left

abbrev pub decreases-params : goal.decreases-params
decreases-params l = length l.left
