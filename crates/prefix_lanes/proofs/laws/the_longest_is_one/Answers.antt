use Rattle.prefix_lanes.proofs.OneAnswer.{one_longest}
use Rattle.prefix_lanes.proofs.laws.the_longest_is_one.Goals as goal

pub returns : goal.returns
returns c = one_longest
