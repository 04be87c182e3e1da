use Rattle.stable_paths.proofs.RankLemmas.{each_network_has_its_model}
use Rattle.stable_paths.proofs.laws.each_network_has_its_model.Goals as goal

pub returns : goal.returns
returns g c = each_network_has_its_model c.policies_are_tests.ensures.permits c.the_best_is_the_first.ensures
