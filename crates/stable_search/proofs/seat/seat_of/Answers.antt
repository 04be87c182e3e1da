use Rattle.std.proofs.Common.{sym, subst}
use Rattle.stable_search.specs.Listing.{IsListing}
use Rattle.stable_search.proofs.SeatLemmas.{whole_seat, open_seat}
use Rattle.stable_search.proofs.seat.seat_of.Goals as goal

pub returns-clause-seat : goal.returns-clause-seat
returns-clause-seat c =
    subst (IsListing c.args.instance.now 1) (sym c.seat_with-2.ensures)
    (whole_seat c.args.instance.now c.args.it.now c.requires.chooser c.in-Some.values (rw c.in-Some.is at c.in_ok-found.ensures.values))

pub returns-in_default-clause-seat : goal.returns-in_default-clause-seat
returns-in_default-clause-seat c =
    subst (IsListing c.args.instance.now 1) (sym c.seat_with.ensures)
    (open_seat c.each_policy_is_an_order.ensures c.args.instance.now c.network-network.ensures.problem c.args.it.now c.requires.chooser c.in_ok-none.none (rw c.in_default.is at c.in_ok-found.ensures.none) c.in_ok-none.ensures.path)
