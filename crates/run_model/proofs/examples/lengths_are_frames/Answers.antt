-- By the lengths.
use Rattle.run_model.proofs.MoreExampleRuns.{lengths_are_frames}
use Rattle.run_model.proofs.examples.lengths_are_frames.Goals as goal

pub returns : goal.returns
returns c = lengths_are_frames
