use Rattle.std.proofs.Common.{refl}
use Rattle.router_model.proofs.examples.originates_once.Goals as goal

pub returns : goal.returns
returns c = (refl, refl)
