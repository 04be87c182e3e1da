use Rattle.rib_tables.proofs.RouterLemmas.{one_best}
use Rattle.rib_tables.proofs.laws.the_best_is_one.Goals as goal

pub returns : goal.returns
returns c = one_best c.each_policy_is_an_order.ensures
