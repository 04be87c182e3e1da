-- By the feasible paths of each network.
use Rattle.wheel_runs.proofs.ExampleLemmas.{disagree_has_no_bound, pair_has_a_bound}
use Rattle.wheel_runs.proofs.laws.small_networks_bound.Goals as goal

pub returns : goal.returns
returns c = record { none = disagree_has_no_bound; pair = pair_has_a_bound }
