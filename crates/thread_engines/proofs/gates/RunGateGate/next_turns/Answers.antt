use Rattle.std.proofs.Common.{◌+◌, arith}
use Rattle.thread_engines.specs.Gates.{script_of, chore_at}
use Rattle.thread_engines.proofs.GateLemmas.{next_are}
use Rattle.thread_engines.proofs.gates.RunGateGate.next_turns.Goals as goal

pub returns-clause-given : goal.returns-clause-given
returns-clause-given c =
    let x = c.args.self.now in
    next_are (chore_at (script_of x)) x.count c.args.turn c.min-given.result (c.from.result + c.from-2.result) c.requires (omega (arith, c.from.ensures, c.from-2.ensures))
    (λ i below. c.turns_from.ensures i (omega (arith, below, c.min-given.ensures)))
