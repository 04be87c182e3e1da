use Rattle.stable_paths.proofs.TableLemmas.{model_law}
use Rattle.stable_paths.proofs.laws.stable_is_the_models.Goals as goal

pub returns : goal.returns
returns g c = model_law c.each_policy_is_an_order.ensures
