use Rattle.worker_loop.proofs.Doing.{acts_are_journals}
use Rattle.worker_loop.proofs.laws.acts_are_journals.Goals as goal

pub returns : goal.returns
returns c = acts_are_journals
