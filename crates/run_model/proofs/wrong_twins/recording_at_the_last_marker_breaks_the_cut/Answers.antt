-- By a small run.
use Rattle.run_model.proofs.TwinRuns.{late_recording_breaks_cut}
use Rattle.run_model.proofs.wrong_twins.recording_at_the_last_marker_breaks_the_cut.Goals as goal

pub returns : goal.returns
returns c = late_recording_breaks_cut
