-- what was passed stands before what is left to read, and says this number first
use Rattle.std.proofs.Common.{length}
use Rattle.bgp_codec.specs.Opens.{cap_at, number_said}
use Rattle.bgp_codec.proofs.JudgingLemmas.{Saying}
use Rattle.bgp_codec.proofs.judging.judge_caps.Given as goal

abbrev pub invariant-caps : goal.invariant-caps
invariant-caps l = Saying cap_at number_said l.said l.octets l.left

abbrev pub decreases-caps : goal.decreases-caps
decreases-caps l = length l.left
