use Rattle.stable_engine.proofs.AlikeRules.{one_policy}
use Rattle.stable_engine.proofs.laws.alike_have_one_policy.Goals as goal

pub returns : goal.returns
returns c = one_policy
