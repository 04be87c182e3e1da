-- Step by step.
use Rattle.run_model.proofs.MoreExampleRuns.{reset_run}
use Rattle.run_model.proofs.examples.reset_run.Goals as goal

pub returns : goal.returns
returns c = reset_run
