use Rattle.session_fsm.proofs.Runs.{restart_waits}
use Rattle.session_fsm.proofs.laws.restart_waits_for_a_start.Goals as goal

pub returns : goal.returns
returns c = restart_waits
