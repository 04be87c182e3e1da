-- Draft by draft.
use Rattle.router_model.proofs.Leaving.{drafts_leave_established}
use Rattle.router_model.proofs.laws.drafts_leave_established.Goals as goal

pub returns : goal.returns
returns c = drafts_leave_established
