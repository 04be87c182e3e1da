use Rattle.std.proofs.Common.{subst}
use Rattle.std.proofs.lemmas.Bool.{not-true}
use Rattle.rib_tables.specs.Least.{HoldsOfAll}
use Rattle.rib_tables.specs.Owners.{RibView, IsSettled}
use Rattle.rib_tables.proofs.AskingLemmas.{all_settled}
use Rattle.rib_tables.proofs.rib.Rib.has_nothing_to_do.Goals as goal

pub returns-then-is_empty : goal.returns-then-is_empty
returns-then-is_empty c = λ yes.
    let s = c.self.inside in
    let net = s.network.now in (
      subst (λ (v : RibView). HoldsOfAll v.net.origins (IsSettled v)) c.self.view_is
          (all_settled net s.router s.peers.items s.keys.keys s.rows.items s.dirty s.waits.items c.self.invariant (λ i r at. c.self.invariant.decided i r at (c.is_empty.ensures c.if-is_empty.true i))),
      c.has_waiting_peer.ensures.none (not-true c.has_waiting_peer.result yes),
    )
