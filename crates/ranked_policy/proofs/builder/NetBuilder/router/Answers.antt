use Rattle.ranked_policy.proofs.builder.NetBuilder.router.Goals as goal

pub returns-clause-some : goal.returns-clause-some
returns-clause-some c = rw (← c.self.view_is) (rw c.as_slice.ensures.value at c.router_of.ensures.some)

pub returns-clause-value : goal.returns-clause-value
returns-clause-value c = rw (← c.self.view_is) (rw c.as_slice.ensures.value at c.router_of.ensures.value)
