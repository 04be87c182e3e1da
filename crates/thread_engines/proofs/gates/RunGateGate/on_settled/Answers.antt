use Rattle.std.proofs.Common.{arith}
use Rattle.thread_engines.proofs.LeftOutLemmas.{given_still}
use Rattle.thread_engines.proofs.gates.RunGateGate.on_settled.Goals as goal

pub returns-then-last-self-clause-given : goal.returns-then-last-self-clause-given
returns-then-last-self-clause-given c =
    let x = c.args.self.now in
    given_still x.until x.opening.items x.spacing x.snapshots x.last c.greatest_before-last.result x.count c.args.turn c.len.result c.if-last-self.true c.requires (omega (arith, c.len.ensures))
    c.greatest_before-last.ensures
