use Rattle.std.proofs.Common.{◌∙◌, ap}
use Rattle.worker_loop.specs.Script.{chore_at}
use Rattle.worker_loop.proofs.Scripts.{next_is}
use Rattle.worker_loop.proofs.script.ScriptGateGate.next.Goals as goal

pub returns-clause-given : goal.returns-clause-given
returns-clause-given g c = next_is _ c.args.self.now.count c.args.turn _ _ c.requires c.from.ensures (c.chore_at.ensures ∙ ap (λ s. chore_at s c.args.turn) c.as_slice.ensures.value)
