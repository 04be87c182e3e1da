use Rattle.stable_search.proofs.CombineLemmas.{none_without_origin}
use Rattle.stable_search.proofs.laws.none_without_origin.Goals as goal

pub returns : goal.returns
returns c = none_without_origin c.no_origin_no_path.ensures c.best_by_rank_is_best.ensures
