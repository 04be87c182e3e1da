-- no peer passed has room, and the first of them that waits is kept
use Rattle.router_core.specs.Views.{view_of}
use Rattle.router_core.proofs.Nexts.{Looked}
use Rattle.router_core.proofs.router.Router.next_to_tell.Given as goal

abbrev pub invariant-loop-peer_at : goal.invariant-loop-peer_at
invariant-loop-peer_at l =
    Looked (view_of l.self-inside) l.peer_at l.blocked
