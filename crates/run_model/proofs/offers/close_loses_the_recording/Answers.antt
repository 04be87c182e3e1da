-- By what stays queued.
use Rattle.run_model.proofs.OutcomeFacts.{lost_is_final, first_close_is_lost}
use Rattle.run_model.proofs.offers.close_loses_the_recording.Goals as goal

pub returns : goal.returns
returns g c = record { lost = lost_is_final; close = first_close_is_lost }
