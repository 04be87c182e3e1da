use Rattle.ranked_policy.proofs.WayLemmas.{join_both}
use Rattle.ranked_policy.proofs.ways.Ways.join.Goals as goal

pub returns-clause-joins : goal.returns-clause-joins
returns-clause-joins c =
    rw (← c.self.view_is) (join_both c.self.inside.ways.items c.add.new.ways.items c.add-2.new.ways.items c.args.a c.args.b (rw c.reserve.ensures.items at c.add.ensures.adds) c.add-2.ensures.adds)
