use Rattle.ranked_policy.proofs.TestLemmas.{best_is_first}
use Rattle.ranked_policy.proofs.laws.the_best_is_the_first.Goals as goal

pub returns : goal.returns
returns c = best_is_first c.a_prefix_is_its_bits.ensures.length c.a_prefix_is_its_bits.ensures.once
