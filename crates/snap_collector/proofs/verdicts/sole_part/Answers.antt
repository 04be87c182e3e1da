use Rattle.std.proofs.Common.{◌≡◌, ◌+◌, List, ap, get_or, subst, sym, true, ◌∙◌}
use Rattle.std.proofs.lemmas.Bool.{eq-eqb}
use Rattle.snap_marker.specs.declared.part.Offer.{Offer}
use Rattle.snap_collector.specs.Collecting.{made_in}
use Rattle.snap_collector.specs.Verdicts.{has_part}
use Rattle.snap_collector.proofs.Sole.{only_part, rest_is}
use Rattle.snap_collector.proofs.verdicts.sole_part.Goals as goal

pub returns-then-router-part : goal.returns-then-router-part
returns-then-router-part c = λ holds.
    let offers = c.args.offers.now in
    let place = c.loop-place.place in
    c.loop-place.invariant.1 holds
    ∙ only_part offers place c.args.router c.in-Part.part holds c.loop-place-test.true (subst (λ (o : Offer). o ≡ get_or offers place o) c.in-Part.is c.index-offers-place.is)
    (eq-eqb c.args.router c.in-Part.part.router c.if-router-part.true) (ap (λ (l : List Offer). has_part (made_in l) c.args.router (λ part. true)) (sym (rest_is offers (place + 1))) ∙ sym c.has_part.ensures ∙ c.if-has_part.false)
