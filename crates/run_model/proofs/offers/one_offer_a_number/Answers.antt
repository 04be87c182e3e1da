-- By what a router has queued of each number.
use Rattle.run_model.proofs.OfferRuns.{at_most_one_offer, recorded_or_offered, no_offer_before_its_recording}
use Rattle.run_model.proofs.offers.one_offer_a_number.Goals as goal

pub returns : goal.returns
returns g c = record { one = at_most_one_offer; recorded = recorded_or_offered; none_before = no_offer_before_its_recording }
