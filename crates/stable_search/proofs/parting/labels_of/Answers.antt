use Rattle.std.proofs.Common.{◌≡◌, ◌∙◌, ◌+◌, ℕ, List, length, take, arith, sym, ap, subst}
use Rattle.stable_search.specs.Parting.{Joins, AreLabels}
use Rattle.stable_search.proofs.PickLemmas.{written}
use Rattle.stable_search.proofs.PartLemmas.{labels_start, labels_on}
use Rattle.stable_search.proofs.parting.labels_of.Goals as goal

pub loop-way-preserved : goal.loop-way-preserved
loop-way-preserved c =
    let now : c.as_mut_slice.result.now ≡ c.loop-way.labels.items = c.as_mut_slice.ensures.value in
    let size : length c.join.new.labels ≡ length c.loop-way.labels.items = c.join.auto.labels ∙ ap length now in
    let back = written c.loop-way.labels.items c.join.new.labels c.loop-way.labels.len size (ap length (sym now) ∙ c.as_mut_slice.ensures.len) in
    let joins : Joins c.args.sets.now c.way-item.result c.as_mut_slice.result.now c.join.new.labels = c.join.ensures in
    subst (AreLabels c.args.sets.now (take (c.loop-way.way-index + 1) c.args.ways.now)) (sym back)
    (labels_on c.args.sets.now c.args.ways.now c.loop-way.way-index c.way-item.result c.loop-way.labels.items c.join.new.labels c.requires c.loop-way-test.true c.way-item.is size
    (subst (λ (xs : List ℕ). Joins c.args.sets.now c.way-item.result xs c.join.new.labels) now joins) c.loop-way.invariant)

pub loop-way-init : goal.loop-way-init
loop-way-init c =
    labels_start c.args.sets.now c.loop-place.labels.items (omega (arith, c.loop-place.invariant.0, c.loop-place-test.false, c.loop-place.auto.place-end))
    (λ k lt. c.loop-place.invariant.1 k (omega (arith, lt, c.loop-place-test.false)))
