-- what was put, before what is left, is what all routers are printed as
use Rattle.std.proofs.Common.{◌≡◌, ◌++◌, drop}
use Rattle.text_engines.specs.Checking.{movers_lines}
use Rattle.text_engines.proofs.movers.put_movers.Given as goal

abbrev pub invariant-loop-mover : goal.invariant-loop-mover
invariant-loop-mover l = l.out.items ++ movers_lines (drop l.mover-index l.movers) ≡ l.fn.out.items ++ movers_lines l.movers
