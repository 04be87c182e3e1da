-- By the table of sessions, event by event.
use Rattle.router_model.proofs.Losing.{leaving_loses}
use Rattle.router_model.proofs.Recording.{recordings_go_on}
use Rattle.router_model.proofs.laws.leaving_loses_the_recording.Goals as goal

pub returns : goal.returns
returns c = record { loses = leaving_loses; goes_on = recordings_go_on }
