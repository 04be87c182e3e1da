use Rattle.std.proofs.Common.{refl}
use Rattle.std.proofs.lemmas.Result.{err_from_is_err_and}
use Rattle.stable_search.specs.Picks.{IsOnlyPick}
use Rattle.stable_search.proofs.NarrowLemmas.{in_before}
use Rattle.stable_search.proofs.PickLemmas.{adds_none, adds_narrowed, full_within, dead, all_low}
use Rattle.stable_search.proofs.searching.settle.Goals as goal

pub returns-then-is_dead-clause-next : goal.returns-then-is_dead-clause-next
returns-then-is_dead-clause-next c =
    let old = c.args.found.now.items in
    adds_narrowed c.args.ways.now c.args.sets.now c.narrow_all.new.sets old old c.narrow_all.ensures
    (adds_none c.args.ways.now c.narrow_all.new.sets old old refl (λ pick s. dead c.args.ways.now c.narrow_all.new.sets pick (c.if-is_dead.ensures.0 refl) s))

pub add_fitting-requires-clause-low : goal.add_fitting-requires-clause-low
add_fitting-requires-clause-low c = all_low c.narrow_all.new.sets c.in-Some.pick (rw c.in-Some.is at c.in_ok-pick.ensures)

pub returns-in_ok-add_fitting-in-Some-clause-next : goal.returns-in_ok-add_fitting-in-Some-clause-next
returns-in_ok-add_fitting-in-Some-clause-next c =
    let only : IsOnlyPick c.narrow_all.new.sets c.in-Some.pick = rw c.in-Some.is at c.in_ok-pick.ensures in
    adds_narrowed c.args.ways.now c.args.sets.now c.narrow_all.new.sets c.args.found.now.items c.add_fitting.new.found.items c.narrow_all.ensures
    (c.in_ok-add_fitting-in-Some.ensures.all c.narrow_all.new.sets only)

pub returns-in_err-add_fitting-in-Some-clause-full : goal.returns-in_err-add_fitting-in-Some-clause-full
returns-in_err-add_fitting-in-Some-clause-full c =
    let only : IsOnlyPick c.narrow_all.new.sets c.in-Some.pick = rw c.in-Some.is at c.in_ok-pick.ensures in
    let p = err_from_is_err_and c.from_residual-in_err-add_fitting-in-Some.result c.from_residual-in_err-add_fitting-in-Some.ensures.1 in
    rw (p.1, p.2)
    (full_within c.args.ways.now c.narrow_all.new.sets c.args.sets.now c.args.most c.args.found.now.items c.in_err-add_fitting-in-Some.field-0.0
    (λ pick is. in_before c.args.ways.now c.args.sets.now c.narrow_all.new.sets pick c.narrow_all.ensures is) (c.in_err-add_fitting-in-Some.ensures.full c.narrow_all.new.sets only))
