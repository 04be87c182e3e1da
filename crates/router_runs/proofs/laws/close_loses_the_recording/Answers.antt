-- By what holds of each router in every state.
use Rattle.router_runs.proofs.Losing.{close_loses}
use Rattle.router_runs.proofs.laws.close_loses_the_recording.Goals as goal

pub returns : goal.returns
returns c = close_loses c.leaving_loses_the_recording.ensures.loses c.leaving_loses_the_recording.ensures.goes_on
