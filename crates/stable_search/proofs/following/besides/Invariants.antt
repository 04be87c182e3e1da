-- the values passed that fit this one, and what fits them
use Rattle.stable_search.proofs.SettleLemmas.{BesidesBelow}
use Rattle.stable_search.proofs.following.besides.Given as goal

abbrev pub invariant-loop-their : goal.invariant-loop-their
invariant-loop-their l = BesidesBelow l.end l.theirs l.value l.their l.partners l.rivals
