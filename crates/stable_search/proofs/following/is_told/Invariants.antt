-- each rival that fits is left
use Rattle.stable_search.proofs.SettleLemmas.{KeepsRivals}
use Rattle.stable_search.proofs.following.is_told.Given as goal

abbrev pub invariant-loop-end : goal.invariant-loop-end
invariant-loop-end l = KeepsRivals l.ends l.sets l.levels l.settled l.place l.value l.left
