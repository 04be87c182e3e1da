use Rattle.ranked_policy.proofs.TestLemmas.{permits_is_a_test, prefers_is_a_test}
use Rattle.ranked_policy.proofs.laws.policies_are_tests.Goals as goal

pub returns : goal.returns
returns c =
    let bits = c.a_prefix_is_its_bits.ensures in
    record { permits = permits_is_a_test bits.length bits.once; prefers = prefers_is_a_test bits.length bits.once }
