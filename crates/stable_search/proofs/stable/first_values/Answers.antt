use Rattle.std.proofs.Common.{arith, refl}
use Rattle.stable_search.proofs.RelateLemmas.{says_yes}
use Rattle.stable_search.proofs.stable.first_values.Goals as goal

pub loop-value-preserved : goal.loop-value-preserved
loop-value-preserved c = says_yes (λ _. Unit {0}) c.loop-value.value c.loop-value.values _ (omega arith) refl tt c.loop-value.invariant
