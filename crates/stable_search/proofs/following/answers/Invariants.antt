-- whatever values the places have, one of the sets has just the values that fit at the ends passed
use Rattle.stable_search.proofs.FollowLemmas.{Left}
use Rattle.stable_search.proofs.following.answers.Given as goal

abbrev pub invariant-loop-end : goal.invariant-loop-end
invariant-loop-end l = Left l.ends l.sets l.place l.end-index l.left.items
