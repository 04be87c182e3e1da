use Rattle.error_words.proofs.WarningLemmas.{covered}
use Rattle.error_words.proofs.warnings.covers.Goals as goal

pub returns : goal.returns
returns c = covered c.args.prefix.now c.args.other.now c.covers.result c.covers.ensures
