use Rattle.std.proofs.Common.{◌≡◌, drop}
use Rattle.router_core.specs.Recorded.{down_in}
use Rattle.router_core.proofs.router.record.first_down.Given as goal

-- what is left decides
abbrev pub invariant-loop-peer : goal.invariant-loop-peer
invariant-loop-peer l = down_in l.peers ≡ down_in (drop l.peer-index l.peers)
