-- By a small run.
use Rattle.run_model.proofs.TwinRuns.{overtaking_breaks_channel}
use Rattle.run_model.proofs.wrong_twins.overtaking_markers_break_the_channel.Goals as goal

pub returns : goal.returns
returns c = overtaking_breaks_channel
