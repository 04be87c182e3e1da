use Rattle.std.proofs.Common.{ℕ, subst}
use Rattle.std.specs.List.{Contains}
use Rattle.ranked_policy.specs.Plans.{Linked}
use Rattle.rib_tables.specs.Owners.{RibView}
use Rattle.rib_tables.proofs.SessionLemmas.{listed_up}
use Rattle.rib_tables.proofs.rib.Rib.network.Goals as goal

pub returns-clause-linked : goal.returns-clause-linked
returns-clause-linked c =
    let s = c.self.inside in
    subst (λ (v : RibView). (peer : ℕ) → Contains v.established peer → Linked v.net.links v.router peer) c.self.view_is (λ peer up.
    let x = listed_up s.peers.items peer up in
    subst (Linked s.network.now.links s.router) x.4 (c.self.invariant.whole.known x.0 x.1 x.2))
