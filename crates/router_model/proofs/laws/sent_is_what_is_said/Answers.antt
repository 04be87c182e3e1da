-- Case by case.
use Rattle.router_model.proofs.Quiet.{sent_is_said}
use Rattle.router_model.proofs.laws.sent_is_what_is_said.Goals as goal

pub returns : goal.returns
returns c = sent_is_said
