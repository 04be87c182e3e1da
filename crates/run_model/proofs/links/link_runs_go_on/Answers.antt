-- One after the other.
use Rattle.run_model.proofs.SessionRuns.{link_runs_go_on}
use Rattle.run_model.proofs.links.link_runs_go_on.Goals as goal

pub returns : goal.returns
returns g c = link_runs_go_on
