use Rattle.std.proofs.Common.{◌∙◌, ℕ, ap, List}
use Rattle.worker_loop.specs.declared.chore.Chore.{Chore}
use Rattle.thread_engines.specs.Gates.{script_of, chore_at}
use Rattle.thread_engines.proofs.GateLemmas.{next_is}
use Rattle.thread_engines.proofs.gates.RunGateGate.next.Goals as goal

pub returns-clause-given : goal.returns-clause-given
returns-clause-given g c =
    let x = c.args.self.now in
    next_is (chore_at (script_of x)) x.count c.args.turn _ _ c.requires c.from.ensures
    (c.chore_at.ensures ∙ ap (λ (cs : List Chore). chore_at (record { opening = cs; spacing = x.spacing; snapshots = c.taken.result }) c.args.turn) c.as_slice.ensures.value
    ∙ ap (λ (k : ℕ). chore_at (record { opening = x.opening.items; spacing = x.spacing; snapshots = k }) c.args.turn) c.taken.ensures)
