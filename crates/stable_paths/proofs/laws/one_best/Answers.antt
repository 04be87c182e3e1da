use Rattle.stable_paths.proofs.TableLemmas.{one_best}
use Rattle.stable_paths.proofs.laws.one_best.Goals as goal

pub returns : goal.returns
returns c = one_best c.each_policy_is_an_order.ensures
