use Rattle.std.proofs.Common.{◌≡◌, ℕ, ◌+◌, ◌-◌, length, arith, subst}
use Rattle.worker_loop.specs.declared.chore.Chore.TheVariants.{Turn}
use Rattle.thread_engines.specs.Gates.{script_of, later_chore}
use Rattle.thread_engines.proofs.GateLemmas.{behind_still}
use Rattle.thread_engines.proofs.gates.RunGateGate.turns_from.Goals as goal

pub returns : goal.returns
returns c = λ i below.
    let x = c.args.self.now in
    let many : c.len-opening.result ≡ length x.opening.items = omega (arith, c.len-opening.ensures) in
    behind_still (script_of x) c.args.turn i (omega (arith, c.if-at-opening.false, many))
    (subst (λ (k : ℕ). later_chore x.spacing k ((c.args.turn - length x.opening.items) + i) ≡ Turn) c.taken.ensures
    (subst (λ (n : ℕ). later_chore x.spacing c.taken.result ((c.args.turn - n) + i) ≡ Turn) many (c.turns_from.ensures i below)))
