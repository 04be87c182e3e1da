-- By the parts of the deciding offers.
use Rattle.run_model.proofs.OutcomeFacts.{parts_are_recorded, not_abandoned_has_all_parts, settled_outcome_is_settled, mismatch_never_comes}
use Rattle.run_model.proofs.offers.outcome_tells.Goals as goal

pub returns : goal.returns
returns g c = record { parts = parts_are_recorded; all = not_abandoned_has_all_parts; settled = settled_outcome_is_settled; mismatch = mismatch_never_comes }
