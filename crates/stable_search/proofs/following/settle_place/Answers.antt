use Rattle.std.proofs.Common.{ℕ, List, get_or, ap, sym, subst, refl}
use Rattle.stable_search.specs.Following.{Tells, Settles}
use Rattle.stable_search.proofs.SettleLemmas.{settles_on}
use Rattle.stable_search.proofs.following.settle_place.Goals as goal
use Rattle.stable_search.proofs.following.settle_place.Goals.{then-has+then-not-has+then-is_told, else-has}

pub loop-value-preserved : goal.loop-value-preserved
loop-value-preserved c =
    let ends = c.args.ends.now in
    let sets = c.args.sets.now in
    let levels = c.args.levels.now in
    let place = c.args.place in
    let value = c.loop-value.value in
    let level : ℕ = get_or levels place 0 in
    let old = c.loop-value.settled.items in
    elim c.if-has.branch [
      | then-has+then-not-has+then-is_told w ↦
          let tells : Tells ends sets levels old place value = subst (λ (xs : List ℕ). Tells ends sets levels xs place value) w.as_slice.ensures.value (w.is_told.ensures w.if-is_told.true) in
          subst (Settles ends sets levels level) (ap (λ v. v.items) (sym w.settled-is))
          (settles_on ends sets levels c.requires.size level c.requires.answers old c.loop-value.invariant place value c.requires.place refl c.loop-value-test.true (w.if-has.ensures.0 refl) tells w.settle.new.settled.items w.settle.ensures)
      | else-has w ↦ subst (Settles ends sets levels level) (ap (λ v. v.items) (sym w.settled-is)) c.loop-value.invariant
    ]
