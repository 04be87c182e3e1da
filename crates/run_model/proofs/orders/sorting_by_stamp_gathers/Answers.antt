use Rattle.run_model.proofs.Gathers.{sorting_by_stamp}
use Rattle.run_model.proofs.orders.sorting_by_stamp_gathers.Goals as goal

pub returns : goal.returns
returns g c = sorting_by_stamp g.Lines.JournalLines.stamp g.Lines.JournalLines.router
