use Rattle.run_model.proofs.Gathers.{gathered_rises}
use Rattle.run_model.proofs.orders.gathered_stamps_rise.Goals as goal

pub returns : goal.returns
returns g c = gathered_rises g.Lines.JournalLines.stamp g.Lines.JournalLines.router
