use Rattle.router_core.specs.ToAll.{counted_down}
use Rattle.router_core.proofs.Marking.{Passed}
use Rattle.router_core.proofs.router.to_all.count_down_all.Given as goal

-- the peers passed are counted down, and the others as they were
abbrev pub invariant-loop-peer : goal.invariant-loop-peer
invariant-loop-peer l = Passed counted_down l.peer-index l.fn.peers.items l.peer-items
