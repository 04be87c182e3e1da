-- By the moves of each event.
use Rattle.run_model.proofs.FactLaws.{session_events_lead_on, up_by_fit}
use Rattle.run_model.proofs.sessions.session_events_lead_on.Goals as goal

pub returns : goal.returns
returns g c = record { leads = session_events_lead_on; up = up_by_fit }
