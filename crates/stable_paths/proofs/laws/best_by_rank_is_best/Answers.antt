use Rattle.stable_paths.proofs.RankLemmas.{best_by_rank_is_best}
use Rattle.stable_paths.proofs.laws.best_by_rank_is_best.Goals as goal

pub returns : goal.returns
returns c = best_by_rank_is_best c.policies_are_tests.ensures.permits c.the_best_is_the_first.ensures
