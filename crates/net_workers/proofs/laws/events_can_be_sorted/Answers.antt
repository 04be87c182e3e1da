use Rattle.net_workers.proofs.Sorting.{events_can_be_sorted}
use Rattle.net_workers.proofs.laws.events_can_be_sorted.Goals as goal

pub returns : goal.returns
returns c = events_can_be_sorted
