-- By the function that computes the best by rank.
use Rattle.std.proofs.Common.{refl}
use Rattle.router_model.specs.Settings.{Setting, ChoosesByRank}
use Rattle.stable_paths.specs.ByRank.{best_by_rank, BestByRankIsBest}
use Rattle.router_runs.specs.Existence.{EachNetworkHasASetting}
use Rattle.router_runs.proofs.laws.each_network_has_a_setting.Goals as goal

has_one : BestByRankIsBest → EachNetworkHasASetting
has_one best net is =
    let g : Setting = record { net = net; best = best_by_rank net } in
    let chooses : ChoosesByRank g = λ u router q named originated words. best net is u router q originated words in record {
      setting = g;
      over = refl;
      chooses = chooses;
      is = λ fits. record { network = is; hold = fits; chooses = chooses };
    }

pub returns : goal.returns
returns c = has_one c.best_by_rank_is_best.ensures
