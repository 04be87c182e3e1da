use Rattle.std.proofs.Common.{◌≡◌, drop}
use Rattle.run_model.specs.Offers as model
use Rattle.snap_collector.specs.Collecting.{made_in}
use Rattle.snap_collector.specs.Verdicts.{any_lost, abandoned_or}
use Rattle.snap_collector.proofs.verdicts.first_lost.Given as goal

-- what is left decides
abbrev pub invariant-loop-offer : goal.invariant-loop-offer
invariant-loop-offer l = (any_lost (made_in l.offers) ≡ any_lost (made_in (drop l.offer-index l.offers))) × ((other : model.Outcome) → abandoned_or (made_in l.offers) other ≡ abandoned_or (made_in (drop l.offer-index l.offers)) other)
