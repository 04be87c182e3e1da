use Rattle.run_model.proofs.Gathers.{sorting_by_both}
use Rattle.run_model.proofs.orders.sorting_by_stamp_then_router_gathers.Goals as goal

pub returns : goal.returns
returns g c = sorting_by_both g.Lines.JournalLines.stamp g.Lines.JournalLines.router
