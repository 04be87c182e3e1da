use Rattle.router_side.proofs.Acting.{acted_on}
use Rattle.router_side.proofs.laws.updates_are_acted_on.Goals as goal

pub returns : goal.returns
returns c = acted_on
