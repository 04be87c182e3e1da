use Rattle.std.proofs.Common.{◌≡◌, take}
use Rattle.std.specs.List.{All}
use Rattle.ranked_policy.proofs.admission.is_named.Given as goal

abbrev pub invariant-loop-origin : goal.invariant-loop-origin
invariant-loop-origin l = All (λ origin. origin.prefix ≡ l.prefix → ⊥) (take l.origin-index l.origins)
