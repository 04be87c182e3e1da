use Rattle.std.proofs.Common.{◌≡◌, ◌≤◌, ◌∙◌, ◌+◌, ◌==◌, true, ℕ, List, length, sym, ap, subst}
use Rattle.std.specs.List.{All}
use Rattle.std.proofs.lemmas.List.Elements.{All-push}
use Rattle.std.proofs.lemmas.Result.{err_from_is_err_and}
use Rattle.stable_search.specs.declared.group.Group.{Group}
use Rattle.stable_search.specs.Parting.{AreLabels, AreGrouped}
use Rattle.stable_search.proofs.PartLemmas.{grouped_skip, grouped_add, grouped_all, no_place}
use Rattle.stable_search.proofs.group.groups_of.Goals as goal
use Rattle.stable_search.proofs.group.groups_of.Goals.{then-not-is_empty+in_ok-group+in_ok-push, else-not-is_empty}

pub loop-label-preserved : goal.loop-label-preserved
loop-label-preserved c =
    let sets = c.args.sets.now in
    let ways = c.args.ways.now in
    let labels = c.as_slice-labels.result.now in
    let n = c.loop-label.label in
    let old = c.loop-label.groups.items in
    let new = c.if-not-is_empty.groups.items in
    let Few : Group → Type 0 = λ group. length group.picks ≤ c.args.limits.now.most in
    elim c.if-not-is_empty.branch [
      | then-not-is_empty+in_ok-group+in_ok-push w ↦
          let added = ap (λ v. v.items) w.groups-is ∙ w.in_ok-push.ensures.items in (
            grouped_add sets labels ways n old new w.in_ok-group.group added w.in_ok-group.ensures.group c.loop-label.invariant.0,
            subst (All Few) (sym added) (All-push Few old w.in_ok-group.group c.loop-label.invariant.1 w.in_ok-group.ensures.most),
          )
      | else-not-is_empty w ↦
          let none : (length c.in_ok-places.places.items == 0) ≡ true = ap (λ (xs : List ℕ). length xs == 0) (sym c.as_slice.ensures.value) ∙ sym c.is_empty.ensures ∙ w.if-not-is_empty.false in
          let same = ap (λ v. v.items) (sym w.groups-is) in (
            subst (λ (gs : List Group). AreGrouped sets labels ways (n + 1) gs) same
                (grouped_skip sets labels ways n old (no_place labels n c.in_ok-places.places.items none c.in_ok-places.ensures.exact) c.loop-label.invariant.0),
            subst (All Few) same c.loop-label.invariant.1,
          )
    ]

pub returns : goal.returns
returns c =
    let labels = c.as_slice-labels.result.now in
    let of : AreLabels c.args.sets.now c.args.ways.now labels = subst (AreLabels c.args.sets.now c.args.ways.now) (sym c.as_slice-labels.ensures.value) c.in_ok-all_labels.ensures in (
      grouped_all c.args.sets.now labels c.args.ways.now c.loop-label.label c.loop-label.groups.items c.requires.within of c.loop-label-test.false c.loop-label.invariant.0,
      c.loop-label.invariant.1,
    )

pub returns-in_err-all_labels : goal.returns-in_err-all_labels
returns-in_err-all_labels c =
    let p = err_from_is_err_and c.from_residual.result c.from_residual.ensures.1 in
    rw (p.1, p.2) tt

pub returns-in_err-places : goal.returns-in_err-places
returns-in_err-places c =
    let p = err_from_is_err_and c.from_residual-in_err-places.result c.from_residual-in_err-places.ensures.1 in
    rw (p.1, p.2) tt

pub returns-in_err-group : goal.returns-in_err-group
returns-in_err-group c =
    let p = err_from_is_err_and c.from_residual-in_err-group.result c.from_residual-in_err-group.ensures.1 in
    rw (p.1, p.2) c.in_err-group.ensures.refused

pub returns-in_err-push : goal.returns-in_err-push
returns-in_err-push c =
    let p = err_from_is_err_and c.from_residual-in_err-push.result c.from_residual-in_err-push.ensures.1 in
    rw (p.1, p.2) tt
