-- Case by case.
use Rattle.router_model.proofs.Appending.{steps_append}
use Rattle.router_model.proofs.laws.steps_append_what_they_say.Goals as goal

pub returns : goal.returns
returns c = steps_append
