use Rattle.std.proofs.Common.{◌≡◌, arith, get_or, subst}
use Rattle.snap_marker.specs.declared.part.Offer.{Offer}
use Rattle.snap_collector.specs.Places.{place_of}
use Rattle.snap_collector.proofs.Apart.{only}
use Rattle.snap_collector.proofs.part_index.PartIndex.part_at.Goals as goal

pub returns-then-router-part : goal.returns-then-router-part
returns-then-router-part c = λ holds.
    let offers = c.args.offers.now in
    let places = c.args.self.now in
    let place = get_or places.places c.args.slot 0 in
    only (place_of places.routers places.places) offers place c.args.router c.in-Part.part holds c.requires (omega (arith, c.if-place-offers.false))
    (subst (λ (o : Offer). o ≡ get_or offers place o) c.in-Part.is c.index-offers-place.is) c.if-router-part.true
