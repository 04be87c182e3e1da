use Rattle.std.proofs.Common.{◌∷◌, ◌∙◌, sym}
use Rattle.std.proofs.lemmas.Bool.{iff_false}
use Rattle.ranked_policy.proofs.OrderLoops.{first_no, first_yes, first_none}
use Rattle.ranked_policy.proofs.onward.comes_first_onward.Goals as goal

pub returns-then-is_onward : goal.returns-then-is_onward
returns-then-is_onward c =
    first_no c.args.paths.now (c.args.router ∷ c.args.a.now) (c.args.router ∷ c.args.b.now) c.loop-listed.listed-index c.listed-item.result c.loop-listed-test.true c.listed-item.is
    (sym c.as_slice.ensures ∙ c.is_onward.ensures.0 c.if-is_onward.true) c.loop-listed.invariant

pub returns-then-is_onward-2 : goal.returns-then-is_onward-2
returns-then-is_onward-2 c =
    first_yes c.args.paths.now (c.args.router ∷ c.args.a.now) (c.args.router ∷ c.args.b.now) c.loop-listed.listed-index c.listed-item.result c.loop-listed-test.true c.listed-item.is
    (λ e. iff_false c.is_onward.ensures c.if-is_onward.false (c.as_slice.ensures ∙ e)) (sym c.as_slice-in-loop-listed.ensures ∙ c.is_onward-in-loop-listed.ensures.0 c.if-is_onward-2.true) c.loop-listed.invariant

pub returns : goal.returns
returns c = first_none c.args.paths.now (c.args.router ∷ c.args.a.now) (c.args.router ∷ c.args.b.now) c.loop-listed.listed-index c.loop-listed-test.false c.loop-listed.invariant
