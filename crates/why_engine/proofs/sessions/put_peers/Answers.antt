use Rattle.why_engine.proofs.WhyLemmas.{peer_at}
use Rattle.why_engine.proofs.sessions.put_peers.Goals as goal

pub is_coming-coming-requires-clause-peer : goal.is_coming-coming-requires-clause-peer
is_coming-coming-requires-clause-peer c = peer_at c.args.router.now c.args.peers.now c.loop-peer.peer-index c.requires.peers c.loop-peer-test.true

pub put_peer-requires : goal.put_peer-requires
put_peer-requires c = peer_at c.args.router.now c.args.peers.now c.loop-peer.peer-index c.requires.peers c.loop-peer-test.true
