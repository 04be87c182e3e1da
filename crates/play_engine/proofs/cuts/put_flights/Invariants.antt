-- what was put, before what is left, is what all are printed as
use Rattle.std.proofs.Common.{◌≡◌, ◌++◌, drop, map}
use Rattle.snap_collector.specs.Flights.{flight_of}
use Rattle.play_engine.specs.Cutting.{flights_text}
use Rattle.play_engine.proofs.cuts.put_flights.Given as goal

abbrev pub invariant-loop-flight : goal.invariant-loop-flight
invariant-loop-flight l =
    l.out.items ++ flights_text (map flight_of (drop l.flight-index l.flights))
    ≡ l.fn.out.items ++ flights_text (map flight_of l.flights)
