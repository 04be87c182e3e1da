use Rattle.std.proofs.Common.{ℕ, List, [], ◌∷◌, ◌∙◌, ap, map}
use Rattle.snap_marker.specs.Recordings.{MadeOffer}
use Rattle.snap_collector.specs.Booking.{entry_of}
use Rattle.snap_collector.specs.Collecting.{made_by}
use Rattle.snap_collector.specs.Collector.{with_offers}
use Rattle.snap_collector.proofs.Decided.{still_decided}
use Rattle.snap_collector.proofs.collector.Collector.record.Goals as goal

pub put-requires-clause-decided : goal.put-requires-clause-decided
put-requires-clause-decided c =
    still_decided c.as_slice-members.result.now c.self.inside.members.items (map entry_of c.self.inside.offers.entries) (map entry_of c.make_room.new.offers.entries) c.self.inside.decided.items
    c.make_room.new.decided.items c.as_slice-members.ensures.value c.in_ok-make_room.ensures.made c.make_room.ensures.decided c.self.invariant.0

pub returns-clause-ok : goal.returns-clause-ok
returns-clause-ok c =
    rw (← c.self.view_is) (c.put.ensures.made ∙ ap (λ (f : ℕ → List MadeOffer). with_offers f (made_by c.args.offer ∷ [])) c.in_ok-make_room.ensures.made)
