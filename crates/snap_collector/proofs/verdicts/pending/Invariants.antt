use Rattle.std.proofs.Common.{◌≡◌, drop}
use Rattle.snap_collector.specs.Collecting.{made_in}
use Rattle.snap_collector.specs.Verdicts.{pending}
use Rattle.snap_collector.proofs.verdicts.pending.Given as goal

-- what is left decides
abbrev pub invariant-loop-offer : goal.invariant-loop-offer
invariant-loop-offer l = pending (made_in l.offers) l.router ≡ pending (made_in (drop l.offer-index l.offers)) l.router
