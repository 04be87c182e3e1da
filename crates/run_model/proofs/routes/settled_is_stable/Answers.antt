-- By the channels of the cut.
use Rattle.run_model.proofs.SettledFacts.{stable}
use Rattle.run_model.proofs.routes.settled_is_stable.Goals as goal

pub returns : goal.returns
returns g c = stable
