-- Step by step.
use Rattle.run_model.proofs.MoreExampleRuns.{sessions_come_up}
use Rattle.run_model.proofs.examples.sessions_come_up.Goals as goal

pub returns : goal.returns
returns c = sessions_come_up
