use Rattle.rib_tables.proofs.LastLemmas.{last_word_stays}
use Rattle.rib_tables.proofs.laws.the_last_word_stays.Goals as goal

pub returns : goal.returns
returns c = last_word_stays
