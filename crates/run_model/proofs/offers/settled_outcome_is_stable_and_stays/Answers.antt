-- By the laws of settled snapshots.
use Rattle.run_model.proofs.OutcomeRoutes.{settled_outcome_is_stable, settled_outcome_stays}
use Rattle.run_model.proofs.offers.settled_outcome_is_stable_and_stays.Goals as goal

pub returns : goal.returns
returns g c = record { stable = settled_outcome_is_stable; stays = settled_outcome_stays }
