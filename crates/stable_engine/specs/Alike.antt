-- Prefixes of a network that are alike: they have one origin, and at each router one rule.
use Rattle.std.specs.Prelude.{ℕ, ◌↔◌, List}
use Rattle.std.specs.List.{All}
use Rattle.prefix_lanes.specs.Bits.{PrefixView}
use Rattle.ranked_policy.specs.declared.network.RankRule.{RankRule}
use Rattle.ranked_policy.specs.Plans.{Plan, IsOrigin}
use Rattle.ranked_policy.specs.Policies.{Table, IsTableOf, Originates, IsRuleFor, NoRuleFor, IsPermitted, IsPreferred}

-- the longest of these rules that covers either prefix is the same, or none covers either
pub record HaveOneRule (rules : List RankRule) (q other : PrefixView) : Type 0 where
  pub same : (rule : RankRule) → (IsRuleFor rules q rule ↔ IsRuleFor rules other rule)
  pub none : NoRuleFor rules q ↔ NoRuleFor rules other

-- the same router originates both, and each router has one rule for both, or none
pub record Alike (net : Plan) (q other : PrefixView) : Type 0 where
  pub origin : (u : ℕ) → (IsOrigin net.origins u q ↔ IsOrigin net.origins u other)
  pub rules : All (λ r. HaveOneRule r.rules q other) net.routers

-- a router originates both prefixes or neither, has a rule for both or none, and permits and prefers the same paths
pub record HaveOnePolicy (table : Table) (q other : PrefixView) : Type 0 where
  pub originates : (u : ℕ) → (Originates table q u ↔ Originates table other u)
  pub none : NoRuleFor table.rules q ↔ NoRuleFor table.rules other
  pub permits : (path : List ℕ) → (IsPermitted table q path ↔ IsPermitted table other path)
  pub prefers : (a b : List ℕ) → (IsPreferred table q a b ↔ IsPreferred table other a b)

-- each router has one policy for two prefixes that are alike
abbrev pub AlikeHaveOnePolicy : Type 0
AlikeHaveOnePolicy =
    (net : Plan) (q other : PrefixView) → Alike net q other → (u : ℕ) (table : Table) → IsTableOf net u table → HaveOnePolicy table q other
