use Rattle.std.proofs.Common.{sym, subst, refl, ◌∙◌}
use Rattle.stable_search.specs.Picks.{AllSome}
use Rattle.stable_search.proofs.narrowing.narrow_some.Goals as goal
use Rattle.stable_search.proofs.narrowing.narrow_some.Goals.{then-all_some, else-all_some}

pub returns-clause-some : goal.returns-clause-some
returns-clause-some c = λ all. elim c.if-all_some.branch [
  | then-all_some w ↦ subst AllSome (sym (w.sets-is ∙ w.copy_from_slice.ensures.after ∙ w.as_slice-then-all_some.ensures.value ∙ sym c.as_slice.ensures.value)) (w.if-all_some.ensures refl)
  | else-all_some w ↦ subst AllSome (sym w.sets-is) all
]
