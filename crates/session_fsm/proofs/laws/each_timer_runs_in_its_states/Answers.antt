use Rattle.session_fsm.proofs.Runs.{timers_fit}
use Rattle.session_fsm.proofs.laws.each_timer_runs_in_its_states.Goals as goal

pub returns : goal.returns
returns c = timers_fit
