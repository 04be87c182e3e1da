-- Move by move.
use Rattle.router_runs.proofs.Acts.{quiet_steps_are_acts}
use Rattle.router_runs.proofs.laws.quiet_steps_are_acts.Goals as goal

pub returns : goal.returns
returns c = quiet_steps_are_acts c.laws_below.ensures
