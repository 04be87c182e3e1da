-- By the facts of recordings.
use Rattle.run_model.proofs.StepFacts.{markers_are_obeyed}
use Rattle.run_model.proofs.steps.markers_are_obeyed.Goals as goal

pub returns : goal.returns
returns g c = markers_are_obeyed
