-- By induction over the run, in which what was still settling stays so backwards.
use Rattle.run_model.proofs.QuietFacts.{unfinished_snapshots_hold}
use Rattle.run_model.proofs.quiet.unfinished_snapshots_hold.Goals as goal

pub returns : goal.returns
returns g c = unfinished_snapshots_hold
