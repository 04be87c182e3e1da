use Rattle.worker_loop.proofs.Chaining.{pipes_stay}
use Rattle.worker_loop.proofs.worker.Worker.one.Goals as goal

pub has_nothing_to_do-requires : goal.has_nothing_to_do-requires
has_nothing_to_do-requires g c = record { pipes = pipes_stay g.L.Pipes.stands g.L.Pipes.wiring _ _ c.in_ok-obey.ensures.same.later c.requires.pipes }
