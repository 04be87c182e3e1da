use Rattle.std.proofs.Common.{◌∷◌}
use Rattle.why_engine.specs.Explaining.{may_use}
use Rattle.why_engine.proofs.WhyLemmas.{same_truth}
use Rattle.why_engine.proofs.words.is_permitted.Goals as goal

pub returns : goal.returns
unfolding may_use
returns c =
    let t = c.args.table.now in
    let q = c.args.prefix.now in
    let path = t.router ∷ c.args.said.now in
    same_truth _ _ (rw c.router.ensures.value at c.permits_onward.ensures) (c.for_prefix.ensures.permits path) (c.policies_are_tests.ensures.permits t c.router.ensures.table q path)
