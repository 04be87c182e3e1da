use Rattle.std.proofs.Common.{ap, arith, ◌∙◌}
use Rattle.stable_search.proofs.PartLemmas.{places_add, places_skip}
use Rattle.stable_search.proofs.parting.places_with.Goals as goal
use Rattle.stable_search.proofs.parting.places_with.Goals.{then-has-label+in_ok-push, else-has-label}

pub loop-place-preserved : goal.loop-place-preserved
loop-place-preserved c =
    let labels = c.args.labels.now in
    let n = c.loop-place.place in
    elim c.if-has-label.branch [
      | then-has-label+in_ok-push w ↦ places_add labels c.args.label n c.loop-place.places.items c.if-has-label.places.items w.if-has-label.true (ap (λ v. v.items) w.places-is ∙ w.in_ok-push.ensures.items) c.loop-place.invariant
      | else-has-label w ↦ places_skip labels c.args.label n c.loop-place.places.items c.if-has-label.places.items w.if-has-label.false (ap (λ v. v.items) w.places-is) c.loop-place.invariant
    ]

pub returns-clause-exact : goal.returns-clause-exact
returns-clause-exact c = λ place.
    let x = c.loop-place.invariant.0 place in
    ((λ h. (let a = x.0 h in (omega (arith, a.0, c.loop-place.auto.place-end), a.1))), (λ h. x.1 (omega (arith, h.0, c.loop-place-test.false), h.1)))
