use Rattle.std.proofs.Common.{◌≡◌, length, sym, subst, refl}
use Rattle.std.proofs.lemmas.Bool.{eqb-true}
use Rattle.stable_search.specs.Picks.{IsWithin}
use Rattle.stable_search.proofs.SettleLemmas.{KeepsRivals, rivals_on, rivals_none}
use Rattle.stable_search.proofs.following.is_told.Goals as goal
use Rattle.stable_search.proofs.following.is_told.Goals.{then-is_heard+then-is_near, then-is_heard+else-is_near, else-is_heard}

pub loop-end-init : goal.loop-end-init
loop-end-init c = λ one other one_in other_in alike fits rival below has not apart rival_fits. c.rivals_of-left.ensures rival below has not apart

pub loop-end-preserved : goal.loop-end-preserved
loop-end-preserved c =
    let ends = c.args.ends.now in
    let sets = c.args.sets.now in
    let levels = c.args.levels.now in
    let settled = c.args.settled.now in
    let place = c.args.place in
    let value = c.args.value in
    let i = c.loop-end.end-index in
    let end = c.end-item.result in
    let within : IsWithin (length sets) end = subst (IsWithin (length sets)) (sym c.end-item.is) (c.requires.within i end c.loop-end-test.true) in
    elim c.if-is_heard.branch [
      | then-is_heard+then-is_near w ↦
          let both = w.besides-partners.result in
          subst (KeepsRivals ends sets levels settled place value) (sym w.left-is)
          (rivals_on ends sets levels settled place value c.requires.size c.loop-end.left both.0 both.1 i end c.loop-end-test.true c.end-item.is within.from (w.if-is_heard.ensures.0 refl)
          w.besides-partners.ensures (w.is_near.ensures w.if-is_near.true) c.loop-end.invariant)
      | then-is_heard+else-is_near w ↦ subst (KeepsRivals ends sets levels settled place value) (sym w.left-is) c.loop-end.invariant
      | else-is_heard w ↦ subst (KeepsRivals ends sets levels settled place value) (sym w.left-is) c.loop-end.invariant
    ]

pub returns : goal.returns
returns c = λ yes.
    let none : c.loop-end.left ≡ 0 = eqb-true c.loop-end.left 0 yes in
    rivals_none c.args.ends.now c.args.sets.now c.args.levels.now c.args.settled.now c.args.place c.args.value c.loop-end.left none c.loop-end.invariant
