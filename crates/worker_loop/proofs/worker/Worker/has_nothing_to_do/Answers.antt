use Rattle.std.proofs.Common.{refl}
use Rattle.worker_loop.specs.Whole.{seen_of, peers_of}
use Rattle.worker_loop.proofs.Passing.{turn_of_nothing}
use Rattle.worker_loop.proofs.worker.Worker.has_nothing_to_do.Goals as goal

pub returns : goal.returns
returns g c = λ idle k net set.
    let x = c.args.self.now in
    turn_of_nothing k x.router (peers_of x) (seen_of g.L.Pipes.put_to g.L.Pipes.taken_from g.L.Pipes.room g.D.Desk.made x) net set refl (c.links_are_idle.ensures c.if-not-links_are_idle.false)
    (c.is_idle.ensures.decide idle) (c.is_idle.ensures.advertise idle) (c.is_idle.ensures.offer idle)
