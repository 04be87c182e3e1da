use Rattle.ranked_policy.proofs.network.Network.links_of.Goals as goal

pub returns-clause-exact : goal.returns-clause-exact
returns-clause-exact c v = rw (← c.self.view_is) (c.links_of.ensures.exact v)

pub returns-clause-peers : goal.returns-clause-peers
returns-clause-peers c = rw (← c.self.view_is) c.links_of.ensures.peers
