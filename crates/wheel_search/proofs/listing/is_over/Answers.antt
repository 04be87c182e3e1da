use Rattle.std.proofs.Common.{◌≡◌, ◌∙◌, ◌+◌, length, ap, refl, arith}
use Rattle.wheel_search.specs.Lists.{walks, number_at}
use Rattle.wheel_search.proofs.ListLemmas.{to_none, to_size, to_grows, level_is, level_at, level_size}
use Rattle.wheel_search.proofs.listing.is_over.Goals as goal

pub loop-level-init : goal.loop-level-init
loop-level-init c = omega (arith, c.if-besides-most.false, ap length (to_none c.args.instance.now (number_at c.args.instance.now c.args.place)))

pub offset_bounds-as_slice-place : goal.offset_bounds-as_slice-place
offset_bounds-as_slice-place c = omega (arith, c.requires.place, c.network-network.ensures.problem.problem.network.plan.few)

pub bounds-as_slice-place : goal.bounds-as_slice-place
bounds-as_slice-place c =
    let p = c.args.instance.now in
    let n = c.loop-level.level-index in
    let here = level_is p c.args.levels.now c.requires.levels n c.loop-level-test.true c.level-item.result c.as_slice.result.now c.level-item.is c.as_slice.ensures in
    omega (arith, c.requires.place, level_size p c.as_slice.result.now n here)

pub returns-then-count-room : goal.returns-then-count-room
returns-then-count-room c =
    let p = c.args.instance.now in
    let n = c.loop-level.level-index in
    let u = number_at p c.args.place in
    let here = level_is p c.args.levels.now c.requires.levels n c.loop-level-test.true c.level-item.result c.as_slice.result.now c.level-item.is c.as_slice.ensures in
    let count : c.len-count.result ≡ length (walks p.net p.prefix n u) =
    c.len-count.ensures ∙ ap length (c.index-as_slice-place.is ∙ level_at p c.as_slice.result.now n c.args.place c.index-as_slice-place.result here c.requires.place) in
    let grows = to_grows p (n + 1) (length c.args.levels.now) u (omega (arith, c.loop-level-test.true)) in
    (λ t. omega (arith, c.loop-level.invariant, c.if-count-room.true, count, to_size p n u, grows), λ many. refl)

pub loop-level-preserved : goal.loop-level-preserved
loop-level-preserved c =
    let p = c.args.instance.now in
    let n = c.loop-level.level-index in
    let u = number_at p c.args.place in
    let here = level_is p c.args.levels.now c.requires.levels n c.loop-level-test.true c.level-item.result c.as_slice.result.now c.level-item.is c.as_slice.ensures in
    let count : c.len-count.result ≡ length (walks p.net p.prefix n u) =
    c.len-count.ensures ∙ ap length (c.index-as_slice-place.is ∙ level_at p c.as_slice.result.now n c.args.place c.index-as_slice-place.result here c.requires.place) in
    omega (arith, c.loop-level.invariant, c.if-count-room.false, count, to_size p n u)
