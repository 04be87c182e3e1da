-- what is left decides
use Rattle.std.proofs.Common.{◌≡◌, drop}
use Rattle.snap_collector.specs.Collector.{first_part}
use Rattle.snap_collector.proofs.verdicts.first_part.Given as goal

abbrev pub invariant-loop-offer : goal.invariant-loop-offer
invariant-loop-offer l = first_part l.offers l.router ≡ first_part (drop l.offer-index l.offers) l.router
