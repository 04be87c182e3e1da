use Rattle.std.proofs.Common.{◌≡◌, ◌∙◌, ◌<◌, [], ℕ, List, length, get_or, sym, ap, subst, arith}
use Rattle.std.proofs.lemmas.List.{get_or_default}
use Rattle.std.specs.List.{HoldsAt}
use Rattle.ranked_policy.specs.Plans.{Plan, IsRouter}
use Rattle.wheel_search.specs.Chains.{IsChain}
use Rattle.wheel_search.specs.Rows.{paths_of, paths_at}
use Rattle.wheel_search.proofs.GraphLemmas.{not_known, not_listed, not_linked, goes_on, router_found, paths_here}
use Rattle.wheel_search.proofs.wait.wait_over.Goals as goal

pub returns-in_default : goal.returns-in_default
returns-in_default c =
    let net = c.network-network.ensures in
    not_known c.each_policy_is_an_order.ensures c.args.instance.now net.problem.problem c.args.rows.now c.requires.rows c.args.row.now.seat.router c.args.peer c.requires.over.0 c.args.path.now c.requires.over.1
    (λ known. absurd (cc (c.in_default.ensures.some.1 (subst (λ (n : Plan). IsRouter n.routers c.args.peer) (sym net.value) known))))

pub bounds-chains-next : goal.bounds-chains-next
bounds-chains-next c =
    let net = c.network-network.ensures in
    let next = c.in-Some.next in
    let place = subst (λ (n : Plan). (next < length n.routers) × HoldsAt (λ r. r.asn ≡ c.args.peer) n.routers next) net.value c.in-Some.ensures.value in
    let found = router_found c.each_policy_is_an_order.ensures c.args.instance.now net.problem.problem c.args.rows.now c.requires.rows next c.args.peer place.0 place.1 in
    omega (arith, found.0, c.requires.chains.size)

pub place_of_rest-requires : goal.place_of_rest-requires
place_of_rest-requires c =
    let net = c.network-network.ensures in
    let rows = c.args.rows.now in
    let next = c.in-Some.next in
    let place = subst (λ (n : Plan). (next < length n.routers) × HoldsAt (λ r. r.asn ≡ c.args.peer) n.routers next) net.value c.in-Some.ensures.value in
    let found = router_found c.each_policy_is_an_order.ensures c.args.instance.now net.problem.problem rows c.requires.rows next c.args.peer place.0 place.1 in
    let row = c.index-rows-next.result in
    let paths : c.paths.result.now ≡ paths_of (get_or rows next row) = c.paths.ensures ∙ ap paths_of c.index-rows-next.is in
    let chain : c.as_slice-chain.result.now ≡ get_or c.args.chains.now next [] =
    c.as_slice-chain.ensures ∙ c.index-chains-next.is ∙ get_or_default c.args.chains.now next c.index-chains-next.result [] (omega (arith, found.0, c.requires.chains.size)) in
    subst (λ (xs : List (List ℕ)). IsChain xs c.as_slice-chain.result.now) (sym paths) (subst (IsChain (paths_of (get_or rows next row))) (sym chain) (c.requires.chains.each next row found.0))

pub returns-in_default-place_of_rest : goal.returns-in_default-place_of_rest
returns-in_default-place_of_rest c =
    let net = c.network-network.ensures in
    let law = c.each_policy_is_an_order.ensures in
    let p = c.args.instance.now in
    let rows = c.args.rows.now in
    let next = c.in-Some.next in
    let place = subst (λ (n : Plan). (next < length n.routers) × HoldsAt (λ r. r.asn ≡ c.args.peer) n.routers next) net.value c.in-Some.ensures.value in
    let found = router_found law p net.problem.problem rows c.requires.rows next c.args.peer place.0 place.1 in
    let paths : c.paths.result.now ≡ paths_at rows next =
    c.paths.ensures ∙ ap paths_of c.index-rows-next.is ∙ sym (paths_here law p net.problem.problem rows c.requires.rows next c.index-rows-next.result found.0) in
    not_listed law p net.problem.problem rows c.requires.rows c.args.row.now.seat.router c.args.peer next c.requires.over.0 c.args.path.now c.requires.over.1 found.0 found.1 c.paths.result.now paths
    c.requires.stands c.in_default-place_of_rest.ensures

pub returns-then-leads_to : goal.returns-then-leads_to
returns-then-leads_to c =
    let net = c.network-network.ensures in
    let law = c.each_policy_is_an_order.ensures in
    let p = c.args.instance.now in
    let rows = c.args.rows.now in
    let next = c.in-Some.next in
    let place = subst (λ (n : Plan). (next < length n.routers) × HoldsAt (λ r. r.asn ≡ c.args.peer) n.routers next) net.value c.in-Some.ensures.value in
    let found = router_found law p net.problem.problem rows c.requires.rows next c.args.peer place.0 place.1 in
    let paths : c.paths.result.now ≡ paths_at rows next =
    c.paths.ensures ∙ ap paths_of c.index-rows-next.is ∙ sym (paths_here law p net.problem.problem rows c.requires.rows next c.index-rows-next.result found.0) in
    let at = c.in-Some-place_of_rest.ensures in
    goes_on law p net.problem.problem rows c.requires.rows c.args.row.now.seat.router c.args.peer next c.in-Some-place_of_rest.place c.args.path.now found.0 found.1 c.paths.result.now paths at.0 at.1 at.2
    ((c.requires.links c.args.peer).0 (c.leads_to.ensures.0 c.if-leads_to.true))

pub returns-else-leads_to : goal.returns-else-leads_to
returns-else-leads_to c =
    let net = c.network-network.ensures in
    not_linked c.each_policy_is_an_order.ensures c.args.instance.now net.problem.problem c.args.rows.now c.requires.rows c.args.row.now.seat.router c.args.peer c.requires.over.0 c.args.path.now c.requires.over.1
    (λ linked. absurd (cc (c.if-leads_to.false, c.leads_to.ensures.1 ((c.requires.links c.args.peer).1 linked))))
