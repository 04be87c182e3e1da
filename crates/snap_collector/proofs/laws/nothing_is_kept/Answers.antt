use Rattle.snap_collector.proofs.Deciding.{kept_at_first}
use Rattle.snap_collector.proofs.laws.nothing_is_kept.Goals as goal

pub returns : goal.returns
returns c = λ members s. kept_at_first members s
