-- Event by event.
use Rattle.world_core.proofs.Keeping.{what_is_played_is_replayed}
use Rattle.world_core.proofs.laws.what_is_played_is_replayed.Goals as goal

pub returns : goal.returns
returns c = what_is_played_is_replayed
