use Rattle.world_core.proofs.Replaying.{called_runs_are_played}
use Rattle.world_core.proofs.laws.called_runs_are_played.Goals as goal

pub returns : goal.returns
returns c = called_runs_are_played c.answers_are_steps.ensures c.linked_routers_are_peers.ensures
