use Rattle.world_core.proofs.Calling.{answers_are_called}
use Rattle.world_core.proofs.laws.answers_are_called.Goals as goal

pub returns : goal.returns
returns c = answers_are_called c.answers_are_steps.ensures
