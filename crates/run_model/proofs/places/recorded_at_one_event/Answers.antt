-- By the places of recordings.
use Rattle.run_model.proofs.PlaceFacts.{records_its_state, was_recorded, lost_stays_lost}
use Rattle.run_model.proofs.places.recorded_at_one_event.Goals as goal

pub returns : goal.returns
returns g c = record { state = records_its_state; event = was_recorded; lost = lost_stays_lost }
