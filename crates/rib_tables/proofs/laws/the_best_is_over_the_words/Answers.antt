use Rattle.rib_tables.proofs.RouterLemmas.{best_over_words}
use Rattle.rib_tables.proofs.laws.the_best_is_over_the_words.Goals as goal

pub returns : goal.returns
returns c = best_over_words
