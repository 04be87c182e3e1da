use Rattle.stable_search.proofs.CombineLemmas.{stable_are_counted}
use Rattle.stable_search.proofs.laws.stable_assignments_are_counted.Goals as goal

pub returns : goal.returns
returns c = stable_are_counted
