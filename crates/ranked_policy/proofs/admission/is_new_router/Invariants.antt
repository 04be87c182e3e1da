use Rattle.std.proofs.Common.{take}
use Rattle.std.specs.Prelude.{◌≢◌}
use Rattle.std.specs.List.{All}
use Rattle.ranked_policy.proofs.admission.is_new_router.Given as goal

abbrev pub invariant-loop-router : goal.invariant-loop-router
invariant-loop-router l = All (λ r. (r.asn ≢ l.asn) × (r.id ≢ l.id)) (take l.router-index l.routers)
