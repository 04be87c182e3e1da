use Rattle.std.proofs.Common.{◌∙◌, ℕ, List, length, get_or, refl, sym, ap, subst, arith}
use Rattle.stable_search.specs.Picks.{MarksMore, Sees}
use Rattle.stable_search.proofs.PickLemmas.{written}
use Rattle.stable_search.proofs.SampleLemmas.{sees_on, sees_all}
use Rattle.stable_search.proofs.sampling.seen_values.Goals as goal

pub loop-place-preserved : goal.loop-place-preserved
loop-place-preserved c =
    let ways = c.args.ways.now in
    let sets = c.args.sets.now in
    let places = c.args.places.now in
    let k = c.loop-place.place-index in
    let now = c.loop-place.seen.items in
    let new = c.see_place.new.seen in
    let is = c.as_mut_slice.ensures.value in
    let size = c.see_place.auto.seen ∙ ap length is in
    let back = written now new c.loop-place.seen.len size (ap length (sym is) ∙ c.as_mut_slice.ensures.len) in
    let more : MarksMore now new = subst (λ (xs : List ℕ). MarksMore xs new) is c.see_place.ensures.more in (
      ap length back ∙ size ∙ c.loop-place.invariant.0,
      λ j jlt. subst (λ (xs : List ℕ). Sees ways sets (get_or places j 0) xs) (sym back)
          (sees_on ways sets places k (get_or places k 0) now new c.loop-place-test.true refl more c.in_ok-see_place.ensures.sees c.loop-place.invariant.1 j jlt),
    )

pub returns-clause-sees : goal.returns-clause-sees
returns-clause-sees c =
    sees_all c.args.ways.now c.args.sets.now c.args.places.now c.loop-place.seen.items (λ j lt. c.loop-place.invariant.1 j (omega (arith, lt, c.loop-place-test.false)))
