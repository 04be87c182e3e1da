use Rattle.std.proofs.Common.{◌∙◌, ℕ, subst, arith}
use Rattle.std.specs.List.{Contains}
use Rattle.std.specs.Int.RustNames.{bit_and}
use Rattle.std.proofs.lemmas.List.{get_or_default}
use Rattle.stable_search.proofs.FollowLemmas.{all_on}
use Rattle.stable_search.proofs.following.add_common.Goals as goal

pub loop-set-preserved : goal.loop-set-preserved
loop-set-preserved c = (
  λ set has. c.in_ok-add_set.ensures.kept set (c.loop-set.invariant.0 set has),
  all_on (λ n. Contains c.add_set.new.met.items (bit_and n c.args.values)) c.args.sets.now c.loop-set.set-index (c.in_ok-add_set.ensures.added c.if-not-branch.false)
      (λ k lt. c.in_ok-add_set.ensures.kept _ (c.loop-set.invariant.1 k lt)),
)

pub returns-clause-added : goal.returns-clause-added
returns-clause-added c = λ _ set has.
    let is = get_or_default c.args.sets.now has.0 0 set has.1 ∙ has.2 in
    subst (λ (n : ℕ). Contains c.loop-set.met.items (bit_and n c.args.values)) is (c.loop-set.invariant.1 has.0 (omega (arith, has.1, c.loop-set-test.false)))
