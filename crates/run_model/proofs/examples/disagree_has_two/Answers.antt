-- Step by step.
use Rattle.run_model.proofs.RankedFacts.{disagree_has_two}
use Rattle.run_model.proofs.examples.disagree_has_two.Goals as goal

pub returns : goal.returns
returns c = disagree_has_two
