use Rattle.ranked_policy.proofs.builder.NetBuilder.is_origin.Goals as goal

pub returns : goal.returns
returns c = rw (← c.self.view_is) (rw c.as_slice.ensures.value at c.is_origin.ensures)
