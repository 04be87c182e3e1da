-- what was put, before what is left, is all of them
use Rattle.std.proofs.Common.{◌≡◌, ◌++◌, map, drop}
use Rattle.std.specs.List.{flat_map}
use Rattle.snap_collector.specs.Collecting.{made_in, member_of}
use Rattle.snap_collector.specs.Flights.{flight_of, flights_at}
use Rattle.snap_collector.proofs.flights.flights_to.Given as goal

abbrev pub invariant-loop-member : goal.invariant-loop-member
invariant-loop-member l =
    map flight_of l.flights.items ++ flat_map (flights_at (made_in l.offers)) (map member_of (drop l.member-index l.members))
    ≡ flat_map (flights_at (made_in l.offers)) (map member_of l.members)
