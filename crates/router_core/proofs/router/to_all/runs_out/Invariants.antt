use Rattle.std.proofs.Common.{◌≡◌, drop}
use Rattle.router_core.specs.ToAll.{runs_out_in}
use Rattle.router_core.proofs.router.to_all.runs_out.Given as goal

-- what is left decides
abbrev pub invariant-loop-peer : goal.invariant-loop-peer
invariant-loop-peer l = runs_out_in l.peers ≡ runs_out_in (drop l.peer-index l.peers)
