use Rattle.snap_collector.proofs.Deciding.{verdict_is}
use Rattle.snap_collector.proofs.laws.verdicts_are_outcomes.Goals as goal

pub returns : goal.returns
returns c = λ g members over s made kept k. verdict_is g members over s made kept k.rest k.parts k.done k.number k.whole
