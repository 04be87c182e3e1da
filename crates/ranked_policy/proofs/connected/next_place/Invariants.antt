use Rattle.std.proofs.Common.{take}
use Rattle.ranked_policy.specs.Reaching.{IsClosed}
use Rattle.ranked_policy.proofs.connected.next_place.Given as goal

-- of the links so far both ends are marked, or neither is
abbrev pub invariant-loop-link : goal.invariant-loop-link
invariant-loop-link l = IsClosed l.routers (take l.link-index l.links) l.reached
