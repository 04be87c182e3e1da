use Rattle.std.proofs.Common.{◌≡◌, take}
use Rattle.std.specs.Prelude.{◌≢◌}
use Rattle.std.specs.List.{All}
use Rattle.ranked_policy.proofs.admission.is_unruled.Given as goal

abbrev pub invariant-loop-router : goal.invariant-loop-router
invariant-loop-router l = All (λ r. r.asn ≡ l.asn → All (λ rule. rule.prefix ≢ l.prefix) r.rules) (take l.router-index l.routers)
