use Rattle.snap_collector.proofs.NoFlights.{settled_has_none}
use Rattle.snap_collector.proofs.laws.settled_has_none_in_flight.Goals as goal

pub returns : goal.returns
returns c = λ members ms. settled_has_none members ms
