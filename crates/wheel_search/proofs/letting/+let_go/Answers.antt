use Rattle.std.proofs.Common.{◌≡◌, ◌<◌, ◌≤◌, ◌∙◌, ◌+◌, ℕ, true, false, set, List, length, length-append, [], ◌∷◌, refl, sym, ap, subst, arith}
use Rattle.std.specs.Prelude.{slice_index}
use Rattle.wheel_search.specs.declared.letting.Letting.{Letting}
use Rattle.std.specs.Vec.{with_item}
use Rattle.wheel_search.specs.Letting.{IsOn, IsHeld, HasGone}
use Rattle.wheel_search.proofs.LettingLemmas.{closes_here, may_on, fewer_on, held_on, went_on, step_on, done_on, free_by, busy_read, shut_read, popped}
use Rattle.wheel_search.proofs.letting.+let_go.Goals as goal
use Rattle.wheel_search.proofs.letting.+let_go.Goals.{in-Some+else-index+in_ok-closes+in_default-2, in_default}

pub returns-then-index : goal.returns-then-index
returns-then-index t c =
    let on = c.loop-place.invariant in
    let held = c.in-Some.ensures in
    let behind = subst (λ (xs : List ℕ). slice_index xs c.in-Some.next ≤ c.in-Some.at) c.as_slice.ensures.value held.2 in
    λ asks. closes_here c.args.waits.now c.args.letting.now c.args.row c.args.last c.requires.may c.loop-place.letting.gone.items c.loop-place.letting.busy.items c.loop-place.letting.trail.items
    c.loop-place.place on (omega (arith, c.loop-place-test.true)) c.in-Some.next c.in-Some.at held.0 (held.1 asks) c.loop-place.letting refl refl behind (busy_read c.args.waits.now c.args.letting.now c.args.row c.args.last c.requires.may c.loop-place.letting.gone.items c.loop-place.letting.busy.items c.loop-place.letting.trail.items
    c.loop-place.place on (omega (arith, c.loop-place-test.true)) c.in-Some.next c.in-Some.at held.0 c.requires.within c.index.result.now c.index.ensures c.if-index.true)

pub let_go-requires : goal.let_go-requires
let_go-requires t c =
    let on = c.loop-place.invariant in
    let held = c.in-Some.ensures in
    let behind = subst (λ (xs : List ℕ). slice_index xs c.in-Some.next ≤ c.in-Some.at) c.as_slice.ensures.value held.2 in (
      omega (arith, c.decreases, fewer_on c.args.waits.now c.args.letting.now c.args.row c.args.last c.requires.may c.loop-place.letting.gone.items c.loop-place.letting.busy.items c.loop-place.letting.trail.items c.loop-place.place on (omega (arith, c.loop-place-test.true))),
      (
        c.requires.within,
        may_on c.args.waits.now c.args.letting.now c.args.row c.args.last c.requires.may c.loop-place.letting.gone.items c.loop-place.letting.busy.items c.loop-place.letting.trail.items
            c.loop-place.place on (omega (arith, c.loop-place-test.true)) c.in-Some.next c.in-Some.at held.0 c.requires.within c.loop-place.letting refl refl behind (shut_read c.loop-place.letting.busy.items c.in-Some.next c.index.result.now c.index.ensures c.if-index.false),
      ),
    )

pub returns-in-Some-2 : goal.returns-in-Some-2
returns-in-Some-2 t c =
    let on = c.loop-place.invariant in
    let held = c.in-Some.ensures in
    let is : c.args.asks ≡ true → IsHeld c.args.waits.now c.loop-place.letting c.let_go.new.letting c.in-Some.next c.in-Some.at c.in-Some-2.closes = rw c.in-Some-2.is at c.in_ok-closes.ensures in
    λ asks. held_on c.args.waits.now c.args.letting.now c.args.row c.args.last c.requires.may c.loop-place.letting.gone.items c.loop-place.letting.busy.items c.loop-place.letting.trail.items
    c.loop-place.place on (omega (arith, c.loop-place-test.true)) c.in-Some.next c.in-Some.at held.0 (held.1 asks) c.loop-place.letting c.let_go.new.letting refl refl refl c.in-Some-2.closes (is asks)

pub loop-place-preserved : goal.loop-place-preserved
loop-place-preserved t c =
    let on = c.loop-place.invariant in
    let place = c.loop-place.place in
    let under : place < c.args.last + 1 = omega (arith, c.loop-place-test.true) in
    let row = c.args.row in
    let last = c.args.last in
    let waits = c.args.waits.now in
    let old = c.args.letting.now in
    let IsNext : Letting → Type 0 = λ x. IsOn waits old (set x.gone.items row (place + 1)) x.busy.items x.trail.items row (place + 1) in
    elim c.match-held_by.branch [
      | in-Some+else-index+in_ok-closes+in_default-2 w ↦
          let new = w.let_go.new.letting in
          let held = w.in-Some.ensures in
          let went : HasGone waits c.loop-place.letting new w.in-Some.next w.in-Some.at = rw w.in_default-2.is at w.in_ok-closes.ensures in
          let now = went_on waits old row last c.requires.may c.loop-place.letting.gone.items c.loop-place.letting.busy.items c.loop-place.letting.trail.items place on under
          w.in-Some.next w.in-Some.at held.0 c.loop-place.letting new refl refl refl went in
          subst IsNext (sym w.letting-is) (step_on waits old row last c.requires.may new.gone.items new.busy.items new.trail.items place now.0 under
          (λ comes v k e. free_by waits new.gone.items row place w.in-Some.next w.in-Some.at held.0 now.1 v k e))
      | in_default w ↦
          subst IsNext (sym w.letting-is) (step_on waits old row last c.requires.may c.loop-place.letting.gone.items c.loop-place.letting.busy.items c.loop-place.letting.trail.items place on under
          (λ comes v k e. subst (λ (xs : List ℕ). k < slice_index xs v) c.as_slice.ensures.value (w.in_default.ensures comes v k e)))
    ]

pub returns : goal.returns
returns t c =
    let on = c.loop-place.invariant in
    let tail : c.pop.new.self.items ≡ c.args.letting.now.trail.items = popped c.args.letting.now.trail.items c.pop.new.self.items c.args.row c.pop.result (sym on.pushed ∙ c.pop.ensures.items)
    (c.pop.ensures.variant.1 (omega (arith, c.loop-place.letting.trail.ok, ap length on.pushed, length-append c.args.letting.now.trail.items (c.args.row ∷ [])))) in
    done_on c.args.waits.now c.args.letting.now (record { gone = c.loop-place.letting.gone; busy = with_item c.loop-place.letting.busy c.args.row false; trail = c.pop.new.self }) c.args.row c.args.last
    c.requires.may c.loop-place.letting.gone.items c.loop-place.letting.busy.items c.loop-place.letting.trail.items c.loop-place.place on (omega (arith, c.loop-place-test.false)) refl refl tail
