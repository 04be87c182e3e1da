use Rattle.std.proofs.Common.{◌≡◌, ◌∙◌, ◌++◌, ◌∷◌, [], ℕ, List, ◌+◌, get_or, take, sym, ap, subst, append_assoc}
use Rattle.std.proofs.lemmas.List.{take_more}
use Rattle.wheel_search.specs.Rims.{AreRimsOf}
use Rattle.wheel_search.proofs.RimLemmas.{more_rims}
use Rattle.wheel_search.proofs.rims.add_rims.Goals as goal

pub loop-row-preserved : goal.loop-row-preserved
loop-row-preserved c = λ before are.
    (let more : take (c.loop-row.row-index + 1) c.args.circle.now ≡ take c.loop-row.row-index c.args.circle.now ++ get_or c.args.circle.now c.loop-row.row-index 0 ∷ [] = take_more c.args.circle.now c.loop-row.row-index 0 c.loop-row-test.true in
    let whole = ap (λ (xs : List ℕ). before ++ xs) more ∙ sym (append_assoc before (take c.loop-row.row-index c.args.circle.now) (get_or c.args.circle.now c.loop-row.row-index 0 ∷ [])) in
    subst (λ (xs : List ℕ). AreRimsOf c.args.rows.now c.args.waits.now c.args.gone.now xs c.add_rim.new.rims.items) (sym whole)
    (more_rims c.args.rows.now c.args.waits.now c.args.gone.now (before ++ take c.loop-row.row-index c.args.circle.now) c.loop-row.rims.items (get_or c.args.circle.now c.loop-row.row-index 0) c.add_rim.new.rims.items
    (c.loop-row.invariant before are) c.in_ok-add_rim.ensures))
