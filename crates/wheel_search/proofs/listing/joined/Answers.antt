use Rattle.std.proofs.Common.{◌≡◌, ◌∙◌, ◌++◌, ℕ, List, sym, ap, arith}
use Rattle.wheel_search.specs.Lists.{walks, walks_to, number_at}
use Rattle.wheel_search.proofs.ListLemmas.{to_none, to_next, level_is, level_at, level_size}
use Rattle.wheel_search.proofs.listing.joined.Goals as goal

pub loop-level-init : goal.loop-level-init
loop-level-init c = c.new-out.ensures.items ∙ sym (to_none c.args.instance.now (number_at c.args.instance.now c.args.place))

pub offset_bounds-as_slice-place : goal.offset_bounds-as_slice-place
offset_bounds-as_slice-place c = omega (arith, c.requires.place, c.network-network.ensures.problem.problem.network.plan.few)

pub bounds-as_slice-place : goal.bounds-as_slice-place
bounds-as_slice-place c =
    let p = c.args.instance.now in
    let n = c.loop-level.level-index in
    let here = level_is p c.args.levels.now c.requires.levels n c.loop-level-test.true c.level-item.result c.as_slice.result.now c.level-item.is c.as_slice.ensures in
    omega (arith, c.requires.place, level_size p c.as_slice.result.now n here)

pub loop-level-preserved : goal.loop-level-preserved
loop-level-preserved c =
    let p = c.args.instance.now in
    let n = c.loop-level.level-index in
    let u = number_at p c.args.place in
    let here = level_is p c.args.levels.now c.requires.levels n c.loop-level-test.true c.level-item.result c.as_slice.result.now c.level-item.is c.as_slice.ensures in
    let more : c.as_slice-in-loop-level.result.now ≡ walks p.net p.prefix n u =
    c.as_slice-in-loop-level.ensures ∙ c.index-as_slice-place.is ∙ level_at p c.as_slice.result.now n c.args.place c.index-as_slice-place.result here c.requires.place in
    c.in_ok-put_copies.ensures
    ∙ ap (λ (xs : List (List ℕ)). xs ++ c.as_slice-in-loop-level.result.now) c.loop-level.invariant
    ∙ ap (λ (xs : List (List ℕ)). walks_to p.net p.prefix n u ++ xs) more
    ∙ sym (to_next p n u)
