use Rattle.std.proofs.Common.{◌≡◌, drop}
use Rattle.router_core.specs.ToAll.{draft_by, overflow_in}
use Rattle.router_core.proofs.router.to_all.overflows.Given as goal

-- what is left decides
abbrev pub invariant-loop-peer : goal.invariant-loop-peer
invariant-loop-peer l = overflow_in (draft_by l.event l.fn.own_open) l.peers ≡ overflow_in (draft_by l.event l.fn.own_open) (drop l.peer-index l.peers)
