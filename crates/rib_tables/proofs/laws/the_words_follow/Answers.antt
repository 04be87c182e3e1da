use Rattle.rib_tables.proofs.LastLemmas.{words_follow}
use Rattle.rib_tables.proofs.laws.the_words_follow.Goals as goal

pub returns : goal.returns
returns c = words_follow
