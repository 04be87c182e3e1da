-- the peers found, before those among the peers that are left, are all
use Rattle.std.proofs.Common.{◌≡◌, ◌++◌, drop}
use Rattle.router_core.specs.Views.{plain_of, sides_of}
use Rattle.why_engine.specs.Explaining.{told_of}
use Rattle.why_engine.proofs.prefixes.told_peers.Given as goal

abbrev pub invariant-loop-peer : goal.invariant-loop-peer
invariant-loop-peer l =
    l.told.items ++ told_of ((plain_of l.router).router.kept l.prefix) (sides_of l.router) l.prefix (drop l.peer-index l.peers)
    ≡ told_of ((plain_of l.router).router.kept l.prefix) (sides_of l.router) l.prefix l.peers
