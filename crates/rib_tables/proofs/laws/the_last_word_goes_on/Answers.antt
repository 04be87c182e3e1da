use Rattle.rib_tables.proofs.LastLemmas.{last_word_goes_on}
use Rattle.rib_tables.proofs.laws.the_last_word_goes_on.Goals as goal

pub returns : goal.returns
returns c = last_word_goes_on
