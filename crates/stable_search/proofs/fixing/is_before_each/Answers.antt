use Rattle.std.proofs.Common.{◌≡◌, ◌∙◌, ◌∷◌, [], ℕ, List, get_or, refl, sym, ap, subst, arith, inl, inr}
use Rattle.std.proofs.lemmas.Bool.{cases_order}
use Rattle.std.proofs.lemmas.List.{get_or_default}
use Rattle.ranked_policy.specs.Choosing.{chosen_prefers}
use Rattle.ranked_policy.specs.Paths.{BeginsWith}
use Rattle.stable_search.proofs.fixing.is_before_each.Goals as goal

pub loop-listed-preserved : goal.loop-listed-preserved
loop-listed-preserved c = λ k rest lt e.
    let i = c.loop-listed.listed-index in
    elim (cases_order k i) [
      | inl same ↦
          let here : c.as_slice.result.now ≡ c.args.router ∷ c.args.peer ∷ rest =
          c.as_slice.ensures ∙ c.listed-item.is ∙ get_or_default c.args.paths.now i c.listed-item.result [] c.loop-listed-test.true ∙ ap (λ (n : ℕ). get_or c.args.paths.now n []) (sym same) ∙ e in
          subst (λ (q : List ℕ). BeginsWith c.args.path.now c.args.router × chosen_prefers c.args.policy.now c.args.path.now q) here (c.if-not-is_no_better.ensures refl rest here)
      | inr differ ↦ c.loop-listed.invariant k rest (elim differ [ inl l ↦ l | inr m ↦ absurd (omega (arith, lt, m)) ]) e
    ]

pub returns : goal.returns
returns c = λ t rest has.
    c.loop-listed.invariant has.0 rest (omega (arith, has.1, c.loop-listed-test.false)) (get_or_default c.args.paths.now has.0 [] (c.args.router ∷ c.args.peer ∷ rest) has.1 ∙ has.2)
