use Rattle.ranked_policy.proofs.ways.Ways.of.Goals as goal

pub returns-clause-exact : goal.returns-clause-exact
returns-clause-exact c = rw (← c.self.view_is) (rw c.as_slice.ensures.value at c.ways_from.ensures.exact)
