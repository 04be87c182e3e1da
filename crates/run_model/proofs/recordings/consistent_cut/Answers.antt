-- By what holds of every state of a run.
use Rattle.run_model.proofs.RecordingRuns.{consistent}
use Rattle.run_model.proofs.recordings.consistent_cut.Goals as goal

pub returns : goal.returns
returns g c = consistent
