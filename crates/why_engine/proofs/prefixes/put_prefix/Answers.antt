use Rattle.why_engine.proofs.WhyLemmas.{peer_at}
use Rattle.why_engine.proofs.prefixes.put_prefix.Goals as goal

pub said_by-said-requires-clause-peer : goal.said_by-said-requires-clause-peer
said_by-said-requires-clause-peer c = peer_at c.args.router.now c.args.peers.now c.loop-peer.peer-index c.requires.peers c.loop-peer-test.true
