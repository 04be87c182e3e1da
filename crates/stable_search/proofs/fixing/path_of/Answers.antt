use Rattle.std.proofs.Common.{◌≡◌, ℕ, List, sym, ap, subst}
use Rattle.std.specs.Prelude.{IsTrue}
use Rattle.ranked_policy.specs.declared.network.Link.{Link}
use Rattle.ranked_policy.specs.Plans.{Plan}
use Rattle.stable_paths.proofs.ListLemmas.{never}
use Rattle.stable_search.specs.Fixing.{IsFixed, IsOffered, HoldsOverAll}
use Rattle.stable_search.proofs.FixLemmas.{own_fixed, best_fixed}
use Rattle.stable_search.proofs.fixing.path_of.Goals as goal

pub returns-then-it : goal.returns-then-it
returns-then-it c =
    subst (IsFixed c.args.instance.now c.args.it.now) (sym c.in_ok-path.ensures.ok)
    (own_fixed c.each_policy_is_an_order.ensures c.args.instance.now c.network-network.ensures.problem c.args.it.now c.requires.chooser c.if-it.true)

pub returns-then-holds_over_all : goal.returns-then-holds_over_all
returns-then-holds_over_all c =
    let p = c.args.instance.now in
    let choosers = c.args.choosers.now in
    let fixed = c.args.fixed.now in
    let it = c.args.it.now in
    let links : c.network-network.result.now.links ≡ p.net.links = ap (λ (n : Plan). n.links) c.network-network.ensures.value in
    let path : List ℕ = c.in_ok-path-2.path in
    let offered : IsOffered p.net.links choosers fixed it path = subst (λ (ls : List Link). IsOffered ls choosers fixed it path) links c.in_ok-path-2.ensures in
    let holds : HoldsOverAll p.net.links choosers c.args.distances.now fixed it path =
    subst (λ (ls : List Link). HoldsOverAll ls choosers c.args.distances.now fixed it path) links
    (subst (HoldsOverAll c.network-network.result.now.links choosers c.args.distances.now fixed it) c.as_slice.ensures (c.holds_over_all.ensures c.if-holds_over_all.true)) in
    best_fixed c.each_policy_is_an_order.ensures p c.network-network.ensures.problem choosers c.requires.routers c.requires.choosers c.args.distances.now c.requires.distances fixed c.requires.fixed it c.requires.chooser
    (λ t. never (subst IsTrue c.if-it.false t)) path offered holds
