-- what was put, before what is left, is all of them
use Rattle.std.proofs.Common.{◌≡◌, ◌++◌, map, drop}
use Rattle.std.specs.List.{flat_map}
use Rattle.snap_marker.specs.Parts.{part_of}
use Rattle.snap_collector.specs.Flights.{flight_of, flights_from}
use Rattle.snap_collector.proofs.flights.put_part.Given as goal

abbrev pub invariant-loop-peer : goal.invariant-loop-peer
invariant-loop-peer l =
    map flight_of l.flights.items ++ flat_map (λ v. flights_from l.member.router v ((part_of l.part).channel v)) (drop l.peer-index l.member.peers)
    ≡ map flight_of l.fn.flights.items ++ flat_map (λ v. flights_from l.member.router v ((part_of l.part).channel v)) l.member.peers
