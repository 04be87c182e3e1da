use Rattle.std.proofs.Common.{◌↔◌, ℕ, List, subst}
use Rattle.prefix_lanes.specs.Bits.{PrefixView}
use Rattle.ranked_policy.specs.Plans.{Plan}
use Rattle.ranked_policy.specs.Policies.{IsTableOf, IsPermitted}
use Rattle.ranked_policy.specs.Choosing.{chosen_permits}
use Rattle.wheel_search.proofs.listing.policy_of.Goals as goal

pub returns : goal.returns
returns c =
    let table = c.unwrap-table.result in
    let of : IsTableOf c.args.instance.now.net c.args.router table =
    subst (λ (n : Plan). IsTableOf n c.args.router table) c.network-network.ensures.value (rw c.unwrap-table.ensures at c.policies.ensures.value) in (
      table,
      of,
      subst (λ (q : PrefixView). (path : List ℕ) → (chosen_permits c.for_prefix.result path ↔ IsPermitted table q path)) c.prefix.ensures.value c.for_prefix.ensures.permits,
    )
