use Rattle.std.proofs.Common.{◌≡◌, ◌∙◌, ◌+◌, ◌<◌, ◌++◌, [], ◌∷◌, ℕ, List, length, map, take, sym, ap, subst, arith}
use Rattle.std.proofs.lemmas.List.{map-append, take_more, length-map}
use Rattle.ranked_policy.specs.declared.network.NetRouter.{NetRouter}
use Rattle.ranked_policy.specs.Plans.{numbers}
use Rattle.wheel_search.specs.Lists.{walks, walks_to, number_at}
use Rattle.wheel_search.proofs.ListLemmas.{seats_size, seat_number, seat_is, more_paths}
use Rattle.wheel_search.proofs.RowLemmas.{free_none}
use Rattle.wheel_search.proofs.listing.next_level.Goals as goal

pub returns-then-is_over-clause-refused : goal.returns-then-is_over-clause-refused
returns-then-is_over-clause-refused c =
    let p = c.args.instance.now in
    let is = c.network-network.ensures.problem.problem in
    let n = length c.args.levels.now in
    let place = c.loop-place.place in
    let item = c.index-seats-place.result in
    let seat = seat_is p c.args.seats.now c.requires.seats place item c.index-seats-place.is c.loop-place-test.true in
    let number : item.router ≡ number_at p place = seat_number p c.args.seats.now c.requires.seats place item c.index-seats-place.is c.loop-place-test.true in
    let count : c.len.result ≡ length (walks p.net p.prefix n item.router) = c.len.ensures ∙ ap length c.in_ok-paths.ensures in
    let over : c.args.most < length (walks_to p.net p.prefix n (number_at p place)) + c.len.result = c.is_over.ensures.0 c.if-is_over.true in
    let many : c.args.most < length (walks_to p.net p.prefix n item.router) + length (walks p.net p.prefix n item.router) =
    omega (arith, count, subst (λ (u : ℕ). c.args.most < length (walks_to p.net p.prefix n u) + c.len.result) (sym number) over) in (
      free_none c.policies_are_tests.ensures.prefers c.the_longest_rule_is_one.ensures p is item seat (c.is_free.ensures.0 c.if-is_free.true),
      more_paths c.policies_are_tests.ensures.permits c.policies_are_tests.ensures.prefers c.each_policy_is_an_order.ensures p is n item.router c.args.most many,
    )

pub loop-place-preserved : goal.loop-place-preserved
loop-place-preserved c =
    let p = c.args.instance.now in
    let n = length c.args.levels.now in
    let place = c.loop-place.place in
    let item = c.index-seats-place.result in
    let of : ℕ → List (List ℕ) = walks p.net p.prefix n in
    let number : item.router ≡ number_at p place = seat_number p c.args.seats.now c.requires.seats place item c.index-seats-place.is c.loop-place-test.true in
    let below : place < length (numbers p.net.routers) =
    omega (arith, c.loop-place-test.true, seats_size p c.args.seats.now c.requires.seats, length-map p.net.routers (λ (r : NetRouter). r.asn)) in
    let more : take (place + 1) (numbers p.net.routers) ≡ take place (numbers p.net.routers) ++ number_at p place ∷ [] = take_more (numbers p.net.routers) place 0 below in
    c.in_ok-push.ensures.items
    ∙ ap (λ (xs : List (List (List ℕ))). xs ++ c.in_ok-paths.paths ∷ []) c.loop-place.invariant
    ∙ ap (λ (x : List (List ℕ)). map of (take place (numbers p.net.routers)) ++ x ∷ []) (c.in_ok-paths.ensures ∙ ap of number)
    ∙ sym (map-append of (take place (numbers p.net.routers)) (number_at p place ∷ []))
    ∙ ap (map of) (sym more)
