use Rattle.std.proofs.Common.{ℕ, subst, refl, arith}
use Rattle.std.proofs.lemmas.List.{get_or_default}
use Rattle.stable_search.specs.Picks.{IsOnly}
use Rattle.stable_search.proofs.FollowLemmas.{all_on}
use Rattle.stable_search.proofs.following.are_single.Goals as goal

pub loop-set-preserved : goal.loop-set-preserved
loop-set-preserved c = all_on (λ set. (value : ℕ) × IsOnly set value) c.args.sets.now c.loop-set.set-index (c.if-not-is_single.ensures refl) c.loop-set.invariant

pub returns : goal.returns
returns c = λ _ k d lt.
    subst (λ (set : ℕ). (value : ℕ) × IsOnly set value) (get_or_default c.args.sets.now k 0 d lt) (c.loop-set.invariant k (omega (arith, lt, c.loop-set-test.false)))
