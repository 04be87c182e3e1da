use Rattle.std.proofs.Common.{List, ℕ, set, sym, ap, ◌∙◌}
use Rattle.std.proofs.lemmas.List.Edits.{map_over_more}
use Rattle.stable_search.specs.Groups.{at_places}
use Rattle.stable_search.proofs.parting.keep_values_at.Goals as goal

pub loop-pick-preserved : goal.loop-pick-preserved
loop-pick-preserved c =
    let f : List ℕ → List ℕ = λ pick. at_places pick c.args.places.now in
    let picks = c.loop-pick.picks in
    let i = c.loop-pick.pick-index in
    ap (λ (values : List ℕ). set picks i values) (c.in_ok-pick.ensures ∙ ap f (c.as_slice.ensures ∙ sym c.pick-item.is))
    ∙ map_over_more f c.args.picks.now picks i c.pick-item.result c.loop-pick-test.true c.loop-pick.invariant c.pick-item.is
