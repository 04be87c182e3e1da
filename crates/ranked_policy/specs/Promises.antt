-- Laws of the definitions of a router's policies.
use Rattle.std.specs.Prelude.{◌≡◌}
use Rattle.prefix_lanes.specs.Bits.{PrefixView}
use Rattle.ranked_policy.specs.declared.network.RankRule.{RankRule}
use Rattle.ranked_policy.specs.Orders.{IsStrictTotalOrder}
use Rattle.ranked_policy.specs.Policies.{Table, IsTable, IsRuleFor, IsPermitted, IsPreferred}

-- of a router and a prefix at most one rule is the longest that covers
abbrev pub OneRule : Type 0
OneRule =
    (table : Table) → IsTable table → (q : PrefixView) (rule other : RankRule) → IsRuleFor table.rules q rule
    → IsRuleFor table.rules q other
    → rule ≡ other

-- the permitted paths of each router and prefix stand in one order
abbrev pub EachPolicyIsAnOrder : Type 0
EachPolicyIsAnOrder =
    (table : Table) → IsTable table → (q : PrefixView) → IsStrictTotalOrder (IsPermitted table q) (IsPreferred table q)
