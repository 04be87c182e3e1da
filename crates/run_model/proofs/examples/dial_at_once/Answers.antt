-- Step by step.
use Rattle.run_model.proofs.ExampleRuns.{dial_at_once_joins}
use Rattle.run_model.proofs.examples.dial_at_once.Goals as goal

pub returns : goal.returns
returns c = dial_at_once_joins
