use Rattle.std.proofs.Common.{length, refl, sym, ◌∙◌, inl, inr}
use Rattle.std.proofs.lemmas.Bool.{eqb-true, false≢true}
use Rattle.std.proofs.lemmas.List.{nil_from_length}
use Rattle.ranked_policy.proofs.WaysOn.{not_empty}
use Rattle.ranked_policy.proofs.policy.Chosen.better_onward.Goals as goal

pub returns-then-is_empty : goal.returns-then-is_empty
returns-then-is_empty c =
    let way = c.args.way.now in
    inr ((λ some _. some (nil_from_length way (eqb-true (length way) 0 (sym c.is_empty.ensures ∙ c.if-is_empty.true)))), refl)

pub returns-then-takes_onward : goal.returns-then-takes_onward
returns-then-takes_onward c =
    inl (not_empty c.args.way.now (sym c.is_empty.ensures ∙ c.if-is_empty.false), c.takes_onward.ensures.0 c.if-takes_onward.true, refl)

pub returns-else-takes_onward : goal.returns-else-takes_onward
returns-else-takes_onward c = inr ((λ _ taken. false≢true (sym c.if-takes_onward.false ∙ c.takes_onward.ensures.1 taken)), refl)
