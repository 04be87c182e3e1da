use Rattle.std.proofs.Common.{map, ◌∙◌}
use Rattle.snap_collector.specs.Collecting.{made_in}
use Rattle.snap_collector.specs.Flights.{flight_of, flights_at}
use Rattle.snap_collector.proofs.FirstParts.{router_more}
use Rattle.snap_collector.proofs.flights.flights_to.Goals as goal

pub loop-member-preserved : goal.loop-member-preserved
loop-member-preserved c =
    router_more (flights_at (made_in c.args.offers.now)) c.args.members.now c.loop-member.member-index c.member-item.result (map flight_of c.loop-member.flights.items) (map flight_of c.put_router.new.flights.items)
    c.loop-member-test.true c.member-item.is c.in_ok-put_router.ensures
    ∙ c.loop-member.invariant
