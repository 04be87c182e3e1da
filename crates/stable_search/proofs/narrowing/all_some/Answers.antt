use Rattle.std.proofs.Common.{ℕ, refl, arith}
use Rattle.stable_search.specs.Picks.{Has}
use Rattle.stable_search.proofs.FollowLemmas.{all_on}
use Rattle.stable_search.proofs.narrowing.all_some.Goals as goal

pub loop-set-preserved : goal.loop-set-preserved
loop-set-preserved c = all_on (λ set. (value : ℕ) × Has set value) c.args.sets.now c.loop-set.set-index (c.if-not-has_some.ensures refl) c.loop-set.invariant

pub returns : goal.returns
returns c = λ _ i lt. c.loop-set.invariant i (omega (arith, lt, c.loop-set-test.false))
