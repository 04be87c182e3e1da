-- The policy of a router for a prefix: its permitted paths and their order (Griffin, Shepherd and Wilfong 2002, section 2).
use Rattle.std.specs.Prelude.{ℕ, ◌≡◌, ◌≤◌, List, [], ◌∷◌, Option, Some, None}
use Rattle.std.specs.List.{All, Any, Contains}
use mathlib.Core.Logic.{◌⊎◌}
use Rattle.prefix_lanes.specs.Bits.{PrefixView, Covers}
use Rattle.ranked_policy.specs.declared.network.Origin.{Origin}
use Rattle.ranked_policy.specs.declared.network.RankRule.{RankRule}
use Rattle.ranked_policy.specs.Paths.{IsRoute}
use Rattle.ranked_policy.specs.Orders.{ComesFirst, IsShorter}
use Rattle.ranked_policy.specs.Plans.{Plan, IsOrigin, IsNamed, AreRules, AreOrigins}

-- what a router's policies stand on: its number, its rules, and the origin of each prefix of the network
pub record Table : Type 0 where
  pub router : ℕ
  pub rules : List RankRule
  pub origins : List Origin

abbrev pub IsTableOf : Plan → ℕ → Table → Type 0
IsTableOf net u table =
    (table.router ≡ u) × (table.origins ≡ net.origins) × Any (λ r. (r.asn ≡ u) × (r.rules ≡ table.rules)) net.routers

-- u originates the prefix
abbrev pub Originates : Table → PrefixView → ℕ → Type 0
Originates table q u = IsOrigin table.origins u q

-- the origin of the prefix, or none if it isn't named
abbrev pub IsOriginOf : List Origin → PrefixView → Option ℕ → Type 0
IsOriginOf origins q None = IsNamed origins q → ⊥
IsOriginOf origins q (Some u) = IsOrigin origins u q

-- the longest rule that covers the prefix
pub record IsRuleFor (rules : List RankRule) (q : PrefixView) (rule : RankRule) : Type 0 where
  pub listed : Contains rules rule
  pub covers : Covers rule.prefix q
  pub longest : All (λ other. Covers other.prefix q → other.prefix.len ≤ rule.prefix.len) rules

abbrev pub NoRuleFor : List RankRule → PrefixView → Type 0
NoRuleFor rules q = All (λ rule. Covers rule.prefix q → ⊥) rules

-- the paths that the longest covering rule lists, or all where no rule covers the prefix
abbrev pub IsListed : List RankRule → PrefixView → List ℕ → Type 0
IsListed rules q path = ((rule : RankRule) × IsRuleFor rules q rule × Contains rule.paths path) ⊎ NoRuleFor rules q

-- the permitted paths: an origin has the path of itself alone, another router each route to the origin that is listed
abbrev pub IsPermitted : Table → PrefixView → List ℕ → Type 0
IsPermitted table q path =
    (Originates table q table.router × (path ≡ table.router ∷ []))
    ⊎ ((Originates table q table.router → ⊥) × IsRoute table.router (Originates table q) path × IsListed table.rules q path)

-- the order of the permitted paths: that of the rule, or the shorter first; an origin has nothing to choose
abbrev pub IsPreferred : Table → PrefixView → List ℕ → List ℕ → Type 0
IsPreferred table q a b =
    (Originates table q table.router → ⊥)
    × (((rule : RankRule) × IsRuleFor table.rules q rule × ComesFirst rule.paths a b) ⊎ (NoRuleFor table.rules q
    × IsShorter a b))

-- what holds of the table of a network's router
pub record IsTable (table : Table) : Type 0 where
  pub all : List ℕ
  pub rules : AreRules all table.router table.rules
  pub origins : AreOrigins all table.origins
