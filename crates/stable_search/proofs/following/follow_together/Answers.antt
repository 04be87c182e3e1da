use Rattle.stable_search.proofs.PartLemmas.{if_ok}
use Rattle.stable_search.proofs.following.follow_together.Goals as goal

pub returns : goal.returns
returns c = if_ok c.settles.result (λ follow together yes. (c.are_unmoved.ensures c.if-not-are_unmoved.false, together yes)) c.settles.ensures
