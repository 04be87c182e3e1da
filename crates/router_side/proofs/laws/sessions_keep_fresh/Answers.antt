use Rattle.router_side.proofs.Fresh.{sessions_keep_fresh}
use Rattle.router_side.proofs.laws.sessions_keep_fresh.Goals as goal

pub returns : goal.returns
returns c = sessions_keep_fresh
