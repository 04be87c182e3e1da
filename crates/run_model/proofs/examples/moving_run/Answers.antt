-- Step by step.
use Rattle.run_model.proofs.MoreExampleRuns.{moving_run}
use Rattle.run_model.proofs.examples.moving_run.Goals as goal

pub returns : goal.returns
returns c = moving_run
