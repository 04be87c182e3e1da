use Rattle.run_model.proofs.Liftings.{gathering_lifts}
use Rattle.run_model.proofs.orders.gathering_lifts.Goals as goal

pub returns : goal.returns
returns g c = gathering_lifts g.Lines.WholeLines.line g.Lines.WholeLines.stamp g.Lines.WholeLines.router
