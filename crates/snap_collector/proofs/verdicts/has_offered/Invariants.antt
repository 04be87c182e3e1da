use Rattle.std.proofs.Common.{◌≡◌, drop}
use Rattle.snap_collector.specs.Collecting.{made_in, has_offered}
use Rattle.snap_collector.proofs.verdicts.has_offered.Given as goal

-- what is left decides
abbrev pub invariant-loop-offer : goal.invariant-loop-offer
invariant-loop-offer l = has_offered (made_in l.offers) l.router ≡ has_offered (made_in (drop l.offer-index l.offers)) l.router
