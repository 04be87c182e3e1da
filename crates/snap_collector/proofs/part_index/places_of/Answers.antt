use Rattle.std.proofs.Common.{arith, ap, ◌∙◌}
use Rattle.std.proofs.lemmas.List.{length-set}
use Rattle.snap_collector.specs.Places.{slot_of}
use Rattle.snap_collector.proofs.Apart.{one_more}
use Rattle.snap_collector.proofs.part_index.places_of.Goals as goal

pub loop-place-preserved : goal.loop-place-preserved
loop-place-preserved c =
    let places = c.loop-place.places in
    let place = c.loop-place.place in
    let slot = c.slot_of-slot.result in
    let test = c.loop-place-test.true in
    let few = c.if-count-gt-MOST_ROUTERS.false in
    record {
      room = omega (arith, length-set places slot place, c.loop-place.invariant.room);
      inside = omega (arith, test);
      led = one_more c.routers_of-routers.result places c.args.offers.now place slot c.index-offers-place.result c.loop-place.invariant.led
          (c.slot_of-slot.ensures.value ∙ ap (slot_of c.routers_of-routers.result) c.router.ensures) (omega (arith, c.slot_of-slot.ensures.inside, c.loop-place.invariant.room)) c.if-places-slot.false
          (omega (arith, test, few)) test c.index-offers-place.is;
    }
