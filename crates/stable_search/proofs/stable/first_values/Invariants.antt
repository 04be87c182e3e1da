-- the values passed are in the set
use Rattle.stable_search.proofs.RelateLemmas.{Says}
use Rattle.stable_search.proofs.stable.first_values.Given as goal

abbrev pub invariant-loop-value : goal.invariant-loop-value
invariant-loop-value l = Says (λ _. Unit {0}) l.value l.values
