use Rattle.std.proofs.Common.{ℕ, List, subst}
use Rattle.std.specs.Prelude.{◌↔◌, IsTrue}
use Rattle.prefix_lanes.specs.Bits.{PrefixView}
use Rattle.ranked_policy.specs.Plans.{Plan}
use Rattle.stable_paths.specs.Stable.{MayHave}
use Rattle.stable_paths.proofs.stability.may_keep.Goals as goal

pub returns-in-Some : goal.returns-in-Some
returns-in-Some c =
    let p = c.args.instance.now in
    let b = c.may_have.result in
    let path = c.in-Some.path.now in
    subst (λ (q : List ℕ). IsTrue b ↔ MayHave p.net p.prefix c.args.router q) c.in-Some.ensures
    (subst (λ (q : PrefixView). IsTrue b ↔ MayHave p.net q c.args.router path) c.prefix.ensures.value
    (subst (λ (n : Plan). IsTrue b ↔ MayHave n c.prefix.result.now c.args.router path) c.network.ensures.value c.may_have.ensures))
