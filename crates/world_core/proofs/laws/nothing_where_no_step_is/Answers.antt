-- Event by event.
use Rattle.world_core.proofs.Stilling.{nothing_where_no_step_is}
use Rattle.world_core.proofs.laws.nothing_where_no_step_is.Goals as goal

pub returns : goal.returns
returns c = nothing_where_no_step_is c.idle_where_nothing_may_come.ensures
