use Rattle.std.proofs.Common.{◌∙◌, ℕ, List, length, get_or, ap, sym, subst}
use Rattle.std.specs.List.{All}
use Rattle.std.proofs.lemmas.List.{take_all}
use Rattle.std.proofs.lemmas.List.Elements.{All-push}
use Rattle.stable_search.specs.declared.way.Way.{Way}
use Rattle.stable_search.specs.Picks.{IsWithin, AreWithin}
use Rattle.stable_search.specs.Parting.{InPart, AreCopies}
use Rattle.stable_search.proofs.PartLemmas.{copies_add, copies_skip, keeps_of, within_copy}
use Rattle.stable_search.proofs.parting.ways_with.Goals as goal
use Rattle.stable_search.proofs.parting.ways_with.Goals.{then-labels-way+then-labels-way-2+in_ok-copied+in_ok-push, else-labels-way, else-labels-way-via-then-labels-way+else-labels-way-2, else-labels-way-via-else-labels-way}

pub loop-way-preserved : goal.loop-way-preserved
loop-way-preserved c =
    let labels = c.args.labels.now in
    let label = c.args.label in
    let ways = c.args.ways.now in
    let i = c.loop-way.way-index in
    let way : Way = c.way-item.result in
    let old = c.loop-way.part.items in
    let new = c.if-labels-way.part.items in
    let inv = c.loop-way.invariant in
    let w_in : IsWithin (length labels) way = subst (IsWithin (length labels)) (sym c.way-item.is) (c.requires i way c.loop-way-test.true) in
    elim c.if-labels-way.branch [
      | then-labels-way+then-labels-way-2+in_ok-copied+in_ok-push w ↦
          let copy = w.in_ok-copied.field-0 in
          let same = w.in_ok-copied.ensures in
          let added = ap (λ v. v.items) w.part-is ∙ w.in_ok-push.ensures.items in (
            subst (AreWithin (length labels)) (sym added) (All-push (IsWithin (length labels)) old copy inv.0 (within_copy (length labels) way copy same.0 same.1 same.2 w_in)),
            copies_add labels label ways i way c.loop-way-test.true c.way-item.is old new copy same added inv.1,
            subst (All (InPart labels label)) (sym added)
                (All-push (InPart labels label) old copy inv.2 (ap (λ (n : ℕ). get_or labels n 0) same.0 ∙ w.if-labels-way.true, ap (λ (n : ℕ). get_or labels n 0) same.1 ∙ w.if-labels-way-2.true)),
          )
      | else-labels-way w ↦
          let kept = ap (λ v. v.items) w.part-is in (
            subst (AreWithin (length labels)) (sym kept) inv.0,
            copies_skip labels label ways i way c.loop-way-test.true c.way-item.is old new kept
                (λ inside. elim w.else-labels-way.branch [
                  | else-labels-way-via-then-labels-way+else-labels-way-2 v ↦ v.if-labels-way-2.false inside.1
                  | else-labels-way-via-else-labels-way v ↦ v.if-labels-way.false inside.0
                ])
                inv.1,
            subst (All (InPart labels label)) (sym kept) inv.2,
          )
    ]

pub returns-clause-copies : goal.returns-clause-copies
returns-clause-copies c =
    subst (λ (ws : List Way). AreCopies c.args.labels.now c.args.label ws c.loop-way.part.items) (take_all c.loop-way.way-index c.args.ways.now c.loop-way-test.false) c.loop-way.invariant.1

pub returns-clause-part : goal.returns-clause-part
returns-clause-part c =
    let copies = subst (λ (ws : List Way). AreCopies c.args.labels.now c.args.label ws c.loop-way.part.items) (take_all c.loop-way.way-index c.args.ways.now c.loop-way-test.false) c.loop-way.invariant.1 in
    keeps_of c.args.labels.now c.args.label c.args.ways.now c.loop-way.part.items copies c.loop-way.invariant.2
