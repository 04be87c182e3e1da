-- By a small run.
use Rattle.run_model.proofs.TwinRuns.{using_any_breaks_order}
use Rattle.run_model.proofs.wrong_twins.using_any_incarnation_breaks_order.Goals as goal

pub returns : goal.returns
returns c = using_any_breaks_order
