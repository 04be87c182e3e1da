use Rattle.stable_search.proofs.FitLemmas.{stable_is_fitting}
use Rattle.stable_search.proofs.laws.stable_is_fitting.Goals as goal

pub returns : goal.returns
returns c = stable_is_fitting
