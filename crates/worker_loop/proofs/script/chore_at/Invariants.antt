use Rattle.std.proofs.Common.{◌≡◌, drop}
use Rattle.worker_loop.specs.Script.{chore_at}
use Rattle.worker_loop.proofs.script.chore_at.Given as goal

abbrev pub invariant-loop-line : goal.invariant-loop-line
invariant-loop-line l = chore_at l.fn.script l.turn ≡ chore_at (drop l.line-index l.fn.script) l.turn
