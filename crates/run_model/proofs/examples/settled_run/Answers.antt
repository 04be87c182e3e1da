-- Step by step.
use Rattle.run_model.proofs.ExampleRuns.{settled_run}
use Rattle.run_model.proofs.examples.settled_run.Goals as goal

pub returns : goal.returns
returns c = settled_run
