-- By the facts of link runs.
use Rattle.run_model.proofs.StepFacts.{facts_of}
use Rattle.run_model.proofs.steps.states_of_runs.Goals as goal

pub returns : goal.returns
returns g c = facts_of
