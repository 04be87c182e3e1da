-- By what each event of a session leaves.
use Rattle.run_model.proofs.SessionRuns.{session_runs_go_on, sessions_make_a_link_run, sessions_fit, up_is_established}
use Rattle.run_model.proofs.sessions.sessions_are_link_runs.Goals as goal

pub returns : goal.returns
returns g c = record { on = session_runs_go_on; run = sessions_make_a_link_run; fits = sessions_fit; up = up_is_established }
