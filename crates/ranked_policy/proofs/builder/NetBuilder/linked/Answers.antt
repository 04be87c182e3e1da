use Rattle.ranked_policy.proofs.WayLemmas.{both}
use Rattle.ranked_policy.proofs.builder.NetBuilder.linked.Goals as goal

pub returns : goal.returns
returns c = rw (← c.self.view_is) (both c.has.ensures (c.self.invariant.1 c.args.a c.args.b))
