use Rattle.rib_tables.proofs.LastLemmas.{one_last_word}
use Rattle.rib_tables.proofs.laws.the_last_word_is_one.Goals as goal

pub returns : goal.returns
returns c = one_last_word
