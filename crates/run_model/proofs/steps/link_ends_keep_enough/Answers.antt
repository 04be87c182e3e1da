-- By the facts of link runs.
use Rattle.run_model.proofs.StepFacts.{link_ends_keep_enough}
use Rattle.run_model.proofs.steps.link_ends_keep_enough.Goals as goal

pub returns : goal.returns
returns g c = link_ends_keep_enough
