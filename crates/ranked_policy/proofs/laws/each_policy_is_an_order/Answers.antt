use Rattle.ranked_policy.proofs.laws.each_policy_is_an_order.Goals as goal
use Rattle.ranked_policy.proofs.TableLemmas as lemma

pub returns : goal.returns
returns c = lemma.each_policy_is_an_order c.a_prefix_is_its_bits.ensures.length c.a_prefix_is_its_bits.ensures.once
