use Rattle.ranked_policy.proofs.builder.NetBuilder.names.Goals as goal

pub returns : goal.returns
returns c = rw (← c.self.view_is, c.is_some.ensures) (rw c.as_slice.ensures.value at c.find_prefix.ensures.some)
