-- the peers before this one were met
use Rattle.std.proofs.Common.{take}
use Rattle.worker_loop.specs.Following.{Did, Each, Meets}
use Rattle.worker_loop.specs.Whole.{seen_of, peers_of, IsSameWorker}
use Rattle.worker_loop.proofs.worker.Worker.meet_all.Given as goal

abbrev pub invariant-loop-peer_at : goal.invariant-loop-peer_at
invariant-loop-peer_at g l = record {
  met : Did (λ k. Each (Meets k l.fn.self.router.number) (take l.peer_at (peers_of l.fn.self))) l.fn.self.router.net
      (seen_of g.L.Pipes.put_to g.L.Pipes.taken_from g.L.Pipes.room g.D.Desk.made l.fn.self)
      (seen_of g.L.Pipes.put_to g.L.Pipes.taken_from g.L.Pipes.room g.D.Desk.made l.self);
  same : IsSameWorker g.L.Pipes.wiring l.fn.self l.self;
}
