use Rattle.run_model.proofs.Liftings.{gathers}
use Rattle.run_model.proofs.orders.journals_can_be_gathered.Goals as goal

pub returns : goal.returns
returns g c = gathers g.Lines.JournalLines.stamp g.Lines.JournalLines.router
