use Rattle.std.proofs.Common.{◌-◌, ◌≡◌, arith, map, sym, subst, ◌∙◌, [], ◌∷◌, ◌++◌}
use Rattle.snap_marker.specs.declared.part.Offer.{Offer}
use Rattle.snap_collector.specs.Booking.{missing_parts}
use Rattle.snap_collector.specs.Collecting.{made_by, made_in, member_of}
use Rattle.snap_collector.proofs.Booked.{with_same, with_fewer, times_within}
use Rattle.snap_collector.proofs.book.missing_with.Goals as goal

pub overflow_sub-result : goal.overflow_sub-result
overflow_sub-result c =
    let within = times_within (map member_of c.args.members.now) (made_in c.args.offers.now) c.in-Part.part (sym c.has_part.ensures ∙ c.if-has_part.false) in
    let many = c.times.ensures in
    let is = c.requires.awaited in
    omega (arith, within, many, is)

pub returns-then-has_part : goal.returns-then-has_part
returns-then-has_part c =
    let members = map member_of c.args.members.now in
    let offers = made_in c.args.offers.now in
    subst (λ (o : Offer). c.args.awaited ≡ missing_parts members (offers ++ made_by o ∷ [])) (sym c.in-Part.is)
    (with_same members offers c.in-Part.part c.args.awaited c.requires.unlost (sym c.has_part.ensures ∙ c.if-has_part.true) c.requires.awaited)

pub returns-else-has_part : goal.returns-else-has_part
returns-else-has_part c =
    let members = map member_of c.args.members.now in
    let offers = made_in c.args.offers.now in
    let none = sym c.has_part.ensures ∙ c.if-has_part.false in
    let within = times_within members offers c.in-Part.part none in
    let many = c.times.ensures in
    let is = c.requires.awaited in
    subst (λ (o : Offer). c.args.awaited - c.times.result ≡ missing_parts members (offers ++ made_by o ∷ [])) (sym c.in-Part.is)
    (with_fewer members offers c.in-Part.part c.args.awaited c.times.result (c.args.awaited - c.times.result) c.requires.unlost none c.requires.awaited c.times.ensures (omega (arith, within, many, is)))
