-- By the shortest deciding beginning, which is one.
use Rattle.run_model.proofs.OneOutcome.{outcome_is_one}
use Rattle.run_model.proofs.offers.outcome_is_one.Goals as goal

pub returns : goal.returns
returns g c = outcome_is_one
