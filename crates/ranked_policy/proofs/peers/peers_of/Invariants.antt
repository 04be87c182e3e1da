use Rattle.std.proofs.Common.{◌≡◌, map, take}
use Rattle.ranked_policy.proofs.peers.peers_of.Given as goal

-- those of the links so far
abbrev pub invariant-loop-link : goal.invariant-loop-link
invariant-loop-link l = l.peers.items ≡ map (λ link. link.other) (take l.link-index l.links)
