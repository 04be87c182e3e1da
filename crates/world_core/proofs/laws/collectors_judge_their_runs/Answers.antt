use Rattle.world_core.proofs.Members.{collectors_judge_their_runs}
use Rattle.world_core.proofs.laws.collectors_judge_their_runs.Goals as goal

pub returns : goal.returns
returns c = collectors_judge_their_runs c.verdicts_are_outcomes.ensures c.collected_are_kept.ensures
