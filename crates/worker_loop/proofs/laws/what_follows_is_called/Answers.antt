use Rattle.worker_loop.proofs.Called.{what_follows_is_called}
use Rattle.worker_loop.proofs.laws.what_follows_is_called.Goals as goal

pub returns : goal.returns
returns c = what_follows_is_called c.answers_are_steps.ensures c.answers_are_called.ensures
