-- what was passed stands before what is left to read
use Rattle.std.proofs.Common.{length}
use Rattle.bgp_codec.specs.UpdateReading.{segment_at}
use Rattle.bgp_codec.proofs.JudgingLemmas.{Behind}
use Rattle.bgp_codec.proofs.judging.judge_path.Given as goal

abbrev pub invariant-segments : goal.invariant-segments
invariant-segments l = Behind (segment_at l.width) l.octets l.left

abbrev pub decreases-segments : goal.decreases-segments
decreases-segments l = length l.left
