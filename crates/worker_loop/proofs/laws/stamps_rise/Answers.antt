use Rattle.worker_loop.proofs.Doing.{stamps_rise}
use Rattle.worker_loop.proofs.laws.stamps_rise.Goals as goal

pub returns : goal.returns
returns c = stamps_rise
