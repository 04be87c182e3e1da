use Rattle.std.proofs.Common.{◌≡◌, ℕ, get_or, subst, arith}
use Rattle.ranked_policy.specs.declared.limits.TheConstants.{LONGEST_PATH}
use Rattle.stable_search.specs.declared.seat.Seat.{Seat}
use Rattle.stable_search.specs.Listing.{IsListing}
use Rattle.stable_search.proofs.ListingLemmas.{none_listed, seat_done}
use Rattle.stable_search.proofs.listing.list_open.Goals as goal

pub loop-count-init : goal.loop-count-init
loop-count-init c = none_listed c.args.instance.now c.args.seats.now.items c.requires.routers c.requires.seats

pub returns-clause-routers : goal.returns-clause-routers
returns-clause-routers c = c.loop-count.invariant.routers

pub returns-clause-seats : goal.returns-clause-seats
returns-clause-seats c =
    let all : c.loop-count.count ≡ LONGEST_PATH = omega (arith, c.loop-count-test.false, c.loop-count.auto.count-end) in
    λ k d lt.
    (let seat : Seat = get_or c.loop-count.seats.items k d in
    seat_done c.each_policy_is_an_order.ensures c.args.instance.now c.network-network.ensures.problem seat (subst (λ (n : ℕ). IsListing c.args.instance.now n seat) all (c.loop-count.invariant.each k d lt)))
