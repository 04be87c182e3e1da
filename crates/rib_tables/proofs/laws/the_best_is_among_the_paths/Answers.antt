use Rattle.rib_tables.proofs.RouterLemmas.{best_among}
use Rattle.rib_tables.proofs.laws.the_best_is_among_the_paths.Goals as goal

pub returns : goal.returns
returns c = best_among
