use Rattle.snap_collector.proofs.Deciding.{collected}
use Rattle.snap_collector.proofs.laws.collected_are_kept.Goals as goal

pub returns : goal.returns
returns c = λ members s made. collected members s made
