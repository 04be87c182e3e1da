-- the prefixes of the origins passed
use Rattle.std.proofs.Common.{◌≡◌, map, take}
use Rattle.ranked_policy.specs.declared.network.Origin.{Origin}
use Rattle.rib_tables.proofs.opening.keys_of.Given as goal

abbrev pub invariant-loop-origin : goal.invariant-loop-origin
invariant-loop-origin l = l.keys.keys ≡ map (λ (origin : Origin). origin.prefix) (take l.origin-index l.origins)
