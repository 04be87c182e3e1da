-- Event by event.
use Rattle.world_core.proofs.Keeping.{steps_are_replayed}
use Rattle.world_core.proofs.laws.steps_are_replayed.Goals as goal

pub returns : goal.returns
returns c = steps_are_replayed
