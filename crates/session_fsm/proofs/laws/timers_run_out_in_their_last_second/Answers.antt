use Rattle.session_fsm.proofs.Seconds.{hold_runs_out, keepalive_runs_out, connect_retry_runs_out, restart_runs_out}
use Rattle.session_fsm.proofs.laws.timers_run_out_in_their_last_second.Goals as goal

pub returns-clause-hold : goal.returns-clause-hold
returns-clause-hold c = hold_runs_out

pub returns-clause-keepalive : goal.returns-clause-keepalive
returns-clause-keepalive c = keepalive_runs_out

pub returns-clause-connect_retry : goal.returns-clause-connect_retry
returns-clause-connect_retry c = connect_retry_runs_out

pub returns-clause-restart : goal.returns-clause-restart
returns-clause-restart c = restart_runs_out
