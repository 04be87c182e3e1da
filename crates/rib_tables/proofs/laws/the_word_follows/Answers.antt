use Rattle.rib_tables.proofs.LastLemmas.{word_follows}
use Rattle.rib_tables.proofs.laws.the_word_follows.Goals as goal

pub returns : goal.returns
returns c = word_follows
