use Rattle.run_model.proofs.Gathers.{gathered_is_one}
use Rattle.run_model.proofs.orders.gathered_is_one.Goals as goal

pub returns : goal.returns
returns g c = gathered_is_one g.Lines.JournalLines.stamp g.Lines.JournalLines.router
