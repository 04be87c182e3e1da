use Rattle.why_engine.proofs.WhyLemmas.{peer_at}
use Rattle.why_engine.proofs.prefixes.told_peers.Goals as goal

pub is_told-requires-clause-peer : goal.is_told-requires-clause-peer
is_told-requires-clause-peer c = peer_at c.args.router.now c.args.peers.now c.loop-peer.peer-index c.requires.peers c.loop-peer-test.true
