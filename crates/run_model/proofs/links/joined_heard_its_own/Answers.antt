-- By the facts that hold of the incarnations of the two ends.
use Rattle.run_model.proofs.IncarnationRuns.{joined_heard}
use Rattle.run_model.proofs.links.joined_heard_its_own.Goals as goal

pub returns : goal.returns
returns g c = joined_heard
