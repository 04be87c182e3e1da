use Rattle.session_fsm.proofs.Runs.{never_expires}
use Rattle.session_fsm.proofs.laws.hold_time_zero_never_expires.Goals as goal

pub returns : goal.returns
returns c = never_expires
