use Rattle.session_fsm.proofs.Runs.{hold_timer_expires}
use Rattle.session_fsm.proofs.laws.hold_timer_expires_after_silence.Goals as goal

pub returns : goal.returns
returns c = hold_timer_expires
