-- One after the other.
use Rattle.run_model.proofs.NetworkLinkRuns.{network_runs_go_on}
use Rattle.run_model.proofs.routes.network_runs_go_on.Goals as goal

pub returns : goal.returns
returns g c = network_runs_go_on
