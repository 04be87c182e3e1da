use Rattle.std.proofs.Common.{◌≡◌, ◌∙◌, ◌<◌, length, sym, subst, arith, inl, inr}
use Rattle.std.specs.List.{HoldsAt}
use Rattle.ranked_policy.specs.Plans.{Plan, IsRouter}
use Rattle.dispute_wheels.proofs.FeasibleLemmas.{router_of}
use Rattle.wheel_search.specs.Found.{HasNoRule}
use Rattle.wheel_search.proofs.ListLemmas.{seats_size, seat_number, seat_is}
use Rattle.wheel_search.proofs.RowLemmas.{free_or_not, not_free, placed}
use Rattle.wheel_search.proofs.row.is_free_at.Goals as goal

pub returns-in-Some : goal.returns-in-Some
returns-in-Some c = λ none.
    (let p = c.args.instance.now in
    let is = c.network.ensures.problem.problem in
    let place = c.in-Some.place in
    let seat = c.index-seats-place.result in
    let at = subst (λ (n : Plan). (place < length n.routers) × HoldsAt (λ r. r.asn ≡ c.args.router) n.routers place) c.network.ensures.value c.in-Some.ensures.value in
    let below : place < length c.args.seats.now = omega (arith, at.0, seats_size p c.args.seats.now c.requires) in
    let same : c.args.router ≡ seat.router = sym (placed p.net.routers place c.args.router at.0 at.1) ∙ sym (seat_number p c.args.seats.now c.requires place seat c.index-seats-place.is below) in
    elim (free_or_not seat.kind) [
      | inl free ↦ c.is_free.ensures.1 free
      | inr other ↦
          absurd (not_free c.policies_are_tests.ensures.prefers c.the_longest_rule_is_one.ensures p is seat (seat_is p c.args.seats.now c.requires place seat c.index-seats-place.is below) other (subst (HasNoRule p) same none))
    ])

pub returns-in-None : goal.returns-in-None
returns-in-None c = λ none.
    absurd (cc (c.in-None.ensures.some.1 (subst (λ (n : Plan). IsRouter n.routers c.args.router) (sym c.network.ensures.value) (router_of c.args.instance.now.net c.args.router none.table none.of))))
