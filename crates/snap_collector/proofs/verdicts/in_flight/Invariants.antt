use Rattle.std.proofs.Common.{◌≡◌, drop}
use Rattle.snap_collector.specs.Collecting.{made_in}
use Rattle.snap_collector.specs.Verdicts.{in_flight}
use Rattle.snap_collector.proofs.verdicts.in_flight.Given as goal

-- what is left decides
abbrev pub invariant-loop-offer : goal.invariant-loop-offer
invariant-loop-offer l = in_flight (made_in l.offers) l.router l.peer ≡ in_flight (made_in (drop l.offer-index l.offers)) l.router l.peer
