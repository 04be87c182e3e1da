use Rattle.std.proofs.Common.{◌≡◌, ◌∙◌, ◌-◌, ◌+◌, ◌<◌, ◌++◌, [], ◌∷◌, ℕ, suc, List, Vec, Global, length, drop, sym, ap, subst, append_assoc, arith}
use Rattle.std.specs.List.{All, flat_map}
use Rattle.std.proofs.lemmas.List.{append-nil, drop_more, drop_all, length-map}
use Rattle.ranked_policy.specs.declared.network.NetRouter.{NetRouter}
use Rattle.ranked_policy.specs.declared.path.Path.{Path}
use Rattle.ranked_policy.specs.Plans.{Plan, Linked, numbers}
use Rattle.wheel_search.specs.Lists.{walks, onward, number_at, IsRest}
use Rattle.wheel_search.proofs.ListLemmas.{level_is, level_at, level_size, seats_size, seat_number, rests, over_none, walks_next}
use Rattle.wheel_search.proofs.listing.longer.Goals as goal
use Rattle.wheel_search.proofs.listing.longer.Goals.{then-linked+in_ok-put_onward, else-linked}

pub bounds-last-place : goal.bounds-last-place
bounds-last-place c =
    let p = c.args.instance.now in
    let n = length c.args.levels.now - 1 in
    let here = level_is p c.args.levels.now c.requires.levels n (omega (arith, c.requires.some)) c.index-levels-levels.result c.as_slice-last.result.now c.index-levels-levels.is c.as_slice-last.ensures in
    omega (arith, c.loop-place-test.true, seats_size p c.args.seats.now c.requires.seats, level_size p c.as_slice-last.result.now n here)

pub put_onward-requires-clause-rests : goal.put_onward-requires-clause-rests
put_onward-requires-clause-rests c =
    let p = c.args.instance.now in
    let n = length c.args.levels.now - 1 in
    let v = number_at p c.loop-place.place in
    let below : c.loop-place.place < length p.net.routers = omega (arith, c.loop-place-test.true, seats_size p c.args.seats.now c.requires.seats) in
    let here = level_is p c.args.levels.now c.requires.levels n (omega (arith, c.requires.some)) c.index-levels-levels.result c.as_slice-last.result.now c.index-levels-levels.is c.as_slice-last.ensures in
    let same : c.as_slice-rests.result.now ≡ walks p.net p.prefix n v =
    c.as_slice-rests.ensures ∙ c.index-last-place.is ∙ level_at p c.as_slice-last.result.now n c.loop-place.place c.index-last-place.result here below in
    let seat = seat_number p c.args.seats.now c.requires.seats c.loop-place.place c.index-seats-place.result c.index-seats-place.is c.loop-place-test.true in
    let linked : Linked p.net.links c.args.router v =
    subst (Linked p.net.links c.args.router) seat (subst (λ (net : Plan). Linked net.links c.args.router c.index-seats-place.result.router) c.network-network.ensures.value (c.linked.ensures.0 c.if-linked.true)) in
    subst (λ (xs : List (List ℕ)). All (IsRest p c.args.router) xs) (sym same)
    (rests c.policies_are_tests.ensures.permits c.policies_are_tests.ensures.prefers c.each_policy_is_an_order.ensures p c.network-network.ensures.problem.problem n c.args.router v linked)

pub loop-place-preserved : goal.loop-place-preserved
loop-place-preserved c =
    let p = c.args.instance.now in
    let n = length c.args.levels.now - 1 in
    let place = c.loop-place.place in
    let v = number_at p place in
    let below : place < length p.net.routers = omega (arith, c.loop-place-test.true, seats_size p c.args.seats.now c.requires.seats) in
    let over : ℕ → List (List ℕ) = λ w. onward p.net p.prefix c.args.router (walks p.net p.prefix n w) in
    let seat = seat_number p c.args.seats.now c.requires.seats place c.index-seats-place.result c.index-seats-place.is c.loop-place-test.true in
    let left : drop place (numbers p.net.routers) ≡ v ∷ drop (place + 1) (numbers p.net.routers) =
    drop_more (numbers p.net.routers) place 0 (omega (arith, below, length-map p.net.routers (λ (r : NetRouter). r.asn))) in
    let rest = flat_map over (drop (place + 1) (numbers p.net.routers)) in
    let before : c.loop-place.out.items ++ (over v ++ rest) ≡ flat_map over (numbers p.net.routers) =
    ap (λ (us : List ℕ). c.loop-place.out.items ++ flat_map over us) (sym left) ∙ c.loop-place.invariant in
    let now : c.if-linked.out.items ≡ c.loop-place.out.items ++ over v = elim c.if-linked.branch [
      | then-linked+in_ok-put_onward w ↦
          let here = level_is p c.args.levels.now c.requires.levels n (omega (arith, c.requires.some)) c.index-levels-levels.result c.as_slice-last.result.now c.index-levels-levels.is c.as_slice-last.ensures in
          let same : w.as_slice-rests.result.now ≡ walks p.net p.prefix n v =
          w.as_slice-rests.ensures ∙ w.index-last-place.is ∙ level_at p c.as_slice-last.result.now n place w.index-last-place.result here below in
          ap (λ (out : Vec Path Global). out.items) w.out-is
          ∙ w.in_ok-put_onward.ensures
          ∙ ap (λ (xs : List (List ℕ)). c.loop-place.out.items ++ onward p.net p.prefix c.args.router xs) same
      | else-linked w ↦
          let none : over v ≡ [] =
          over_none c.policies_are_tests.ensures.permits c.policies_are_tests.ensures.prefers c.each_policy_is_an_order.ensures p c.network-network.ensures.problem.problem n c.args.router v
          (λ linked. absurd (cc (
            w.if-linked.false,
            c.linked.ensures.1 (subst (λ (net : Plan). Linked net.links c.args.router c.index-seats-place.result.router) (sym c.network-network.ensures.value) (subst (Linked p.net.links c.args.router) (sym seat) linked)),
          ))) in
          ap (λ (out : Vec Path Global). out.items) w.out-is
          ∙ sym (append-nil c.loop-place.out.items)
          ∙ ap (λ (xs : List (List ℕ)). c.loop-place.out.items ++ xs) (sym none)
    ] in
    ap (λ (xs : List (List ℕ)). xs ++ rest) now ∙ append_assoc c.loop-place.out.items (over v) rest ∙ before

pub returns : goal.returns
returns c =
    let p = c.args.instance.now in
    let n = length c.args.levels.now - 1 in
    let over : ℕ → List (List ℕ) = λ w. onward p.net p.prefix c.args.router (walks p.net p.prefix n w) in
    let last : length c.args.levels.now ≡ suc n = omega (arith, c.requires.some) in
    let none : drop c.loop-place.place (numbers p.net.routers) ≡ [] =
    drop_all c.loop-place.place (numbers p.net.routers) (omega (arith, c.loop-place-test.false, seats_size p c.args.seats.now c.requires.seats, length-map p.net.routers (λ (r : NetRouter). r.asn))) in
    c.from_vec.ensures
    ∙ sym (append-nil c.loop-place.out.items)
    ∙ ap (λ (us : List ℕ). c.loop-place.out.items ++ flat_map over us) (sym none)
    ∙ c.loop-place.invariant
    ∙ sym (walks_next p (length c.args.levels.now) n c.args.router last)
