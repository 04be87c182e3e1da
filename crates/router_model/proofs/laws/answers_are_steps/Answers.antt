-- Call by call.
use Rattle.router_model.proofs.Answering.{answers_are_steps}
use Rattle.router_model.proofs.laws.answers_are_steps.Goals as goal

pub returns : goal.returns
returns c = answers_are_steps
