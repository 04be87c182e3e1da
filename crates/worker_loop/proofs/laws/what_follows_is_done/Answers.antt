use Rattle.worker_loop.proofs.Doing.{what_follows_is_done}
use Rattle.worker_loop.proofs.laws.what_follows_is_done.Goals as goal

pub returns : goal.returns
returns c = what_follows_is_done
