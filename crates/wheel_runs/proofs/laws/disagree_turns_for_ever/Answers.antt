-- Half a turn after half a turn.
use Rattle.wheel_runs.proofs.TurningLemmas.{disagree_turns_for_ever}
use Rattle.wheel_runs.proofs.laws.disagree_turns_for_ever.Goals as goal

pub returns : goal.returns
returns c = disagree_turns_for_ever
