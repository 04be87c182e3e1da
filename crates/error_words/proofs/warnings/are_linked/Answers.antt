use Rattle.error_words.proofs.WarningLemmas.{linked}
use Rattle.error_words.proofs.warnings.are_linked.Goals as goal

pub returns : goal.returns
returns c = linked c.args.network.now.links c.args.one c.args.other c.linked.result c.linked.ensures
