use Rattle.ranked_policy.proofs.TableLemmas.{each_one_rule}
use Rattle.ranked_policy.proofs.laws.the_longest_rule_is_one.Goals as goal

pub returns : goal.returns
returns c = each_one_rule c.a_prefix_is_its_bits.ensures.length c.a_prefix_is_its_bits.ensures.once
