-- what was put, before what is left, is what all are printed as
use Rattle.std.proofs.Common.{◌≡◌, ◌++◌, drop}
use Rattle.router_core.specs.Views.{sides_of}
use Rattle.why_engine.specs.Explaining.{peers_text, pipes_to}
use Rattle.why_engine.proofs.sessions.put_peers.Given as goal

abbrev pub invariant-loop-peer : goal.invariant-loop-peer
invariant-loop-peer l =
    l.out.items ++ peers_text (sides_of l.router) (pipes_to l.world l.router.number) (drop l.peer-index l.peers)
    ≡ l.fn.out.items ++ peers_text (sides_of l.router) (pipes_to l.world l.router.number) l.peers
