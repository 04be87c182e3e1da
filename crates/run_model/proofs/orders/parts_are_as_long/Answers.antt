use Rattle.run_model.proofs.CutLengths.{parts_are_as_long}
use Rattle.run_model.proofs.orders.parts_are_as_long.Goals as goal

pub returns : goal.returns
returns g c = parts_are_as_long
