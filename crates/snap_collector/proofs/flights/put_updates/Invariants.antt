-- what was put, before what is left, is all of them
use Rattle.std.proofs.Common.{◌≡◌, ◌++◌, map, drop}
use Rattle.snap_marker.specs.Parts.{messages}
use Rattle.snap_collector.specs.Flights.{flight_of, flights_from}
use Rattle.snap_collector.proofs.flights.put_updates.Given as goal

abbrev pub invariant-loop-update : goal.invariant-loop-update
invariant-loop-update l =
    map flight_of l.flights.items ++ flights_from l.router l.peer (messages (drop l.update-index l.updates))
    ≡ map flight_of l.fn.flights.items ++ flights_from l.router l.peer (messages l.updates)
