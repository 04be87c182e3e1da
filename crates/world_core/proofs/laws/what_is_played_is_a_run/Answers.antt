-- Event by event.
use Rattle.world_core.proofs.Calling.{what_is_played_is_a_run}
use Rattle.world_core.proofs.laws.what_is_played_is_a_run.Goals as goal

pub returns : goal.returns
returns c = what_is_played_is_a_run c.answers_are_steps.ensures
