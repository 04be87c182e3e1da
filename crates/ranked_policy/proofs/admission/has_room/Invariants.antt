use Rattle.std.proofs.Common.{◌≡◌, ◌<◌, length, take}
use Rattle.std.specs.List.{All}
use Rattle.ranked_policy.proofs.admission.has_room.Given as goal

abbrev pub invariant-loop-router : goal.invariant-loop-router
invariant-loop-router l = All (λ r. r.asn ≡ l.asn → length r.rules < 64) (take l.router-index l.routers)
