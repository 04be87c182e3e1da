-- the chores given so far were done, and none of them was to stop
use Rattle.std.proofs.Common.{◌≡◌, ◌≢◌, ◌≤◌, ◌-◌, length, All}
use Rattle.worker_loop.specs.declared.chore.Chore.TheVariants.{Stop}
use Rattle.worker_loop.specs.Following.{Did, Follows}
use Rattle.worker_loop.specs.Whole.{seen_of, peers_of, IsLaterWorker}
use Rattle.worker_loop.proofs.worker.Worker.work.Given as goal

abbrev pub decreases-chores : goal.decreases-chores
decreases-chores g l = l.turns - l.given

abbrev pub invariant-chores : goal.invariant-chores
invariant-chores g l = record {
  follows : Did (λ k. Follows k l.fn.self.router.number (peers_of l.fn.self) (g.G.Gate.given l.self.gate)) l.fn.self.router.net
      (seen_of g.L.Pipes.put_to g.L.Pipes.taken_from g.L.Pipes.room g.D.Desk.made l.fn.self)
      (seen_of g.L.Pipes.put_to g.L.Pipes.taken_from g.L.Pipes.room g.D.Desk.made l.self);
  counted : l.given ≡ length (g.G.Gate.given l.self.gate);
  few : l.given ≤ l.turns;
  goes_on : All (λ c. c ≢ Stop) (g.G.Gate.given l.self.gate);
  chores : l.self.journal.chores.items ≡ g.G.Gate.given l.self.gate;
  same : IsLaterWorker g.L.Pipes.wiring l.fn.self l.self;
  script : g.G.Gate.script l.self.gate ≡ g.G.Gate.script l.fn.self.gate;
}
