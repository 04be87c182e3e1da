use Rattle.router_core.specs.ToAll.{draft_by}
use Rattle.router_core.proofs.Marking.{Passed}
use Rattle.router_core.proofs.Moving.{ReadyBelow}
use Rattle.router_core.proofs.router.to_all.prepare.Given as goal

-- the peers passed have their drafts and room for them, and no side changed
abbrev pub invariant-loop-peer : goal.invariant-loop-peer
invariant-loop-peer l = record {
  same : Passed (λ s. s) l.peer-index l.fn.peers.items l.peer-items;
  ready : ReadyBelow l.fn.own_open (draft_by l.event l.fn.own_open) l.peer-index l.peer-items l.drafts.items;
}
