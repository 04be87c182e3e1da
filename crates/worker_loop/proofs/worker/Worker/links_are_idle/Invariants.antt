-- the peers before this one are quiet
use Rattle.std.proofs.Common.{take, All}
use Rattle.worker_loop.specs.Whole.{peers_of, IsQuiet}
use Rattle.worker_loop.proofs.worker.Worker.links_are_idle.Given as goal

abbrev pub invariant-loop-peer_at : goal.invariant-loop-peer_at
invariant-loop-peer_at g l = record { quiet : All (IsQuiet l.fn.self.router) (take l.peer_at (peers_of l.fn.self)) }
