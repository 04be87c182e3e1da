-- The least prefix of a network, by address and then by length, of which something does not hold.
use Rattle.std.specs.Prelude.{List}
use Rattle.prefix_lanes.specs.Bits.{PrefixView}
use Rattle.ranked_policy.specs.declared.network.Origin.{Origin}
use Rattle.ranked_policy.specs.Plans.{IsNamed, IsBefore}

-- a property holds of each prefix that the network names
abbrev pub HoldsOfAll : List Origin → (PrefixView → Type 0) → Type 0
HoldsOfAll origins Holds = (q : PrefixView) → IsNamed origins q → Holds q

-- the least prefix of which a property does not hold
pub record IsLeastWithout (origins : List Origin) (Holds : PrefixView → Type 0) (q : PrefixView) : Type 0 where
  pub is_named : IsNamed origins q
  pub fails : Holds q → ⊥
  pub before : (p : PrefixView) → IsNamed origins p → IsBefore p q → Holds p
