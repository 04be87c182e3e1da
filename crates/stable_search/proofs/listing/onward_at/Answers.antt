use Rattle.std.proofs.Common.{◌≡◌, ℕ, List, sym, subst}
use Rattle.std.specs.Prelude.{◌↔◌, IfOk}
use Rattle.std.specs.List.{Contains}
use Rattle.stable_search.specs.declared.seat.Seat.{Seat}
use Rattle.stable_search.specs.Listing.{GoesOnOver, AreOnward}
use Rattle.stable_search.proofs.GroupLemmas.{same_at}
use Rattle.stable_search.proofs.PartLemmas.{if_ok}
use Rattle.stable_search.proofs.listing.onward_at.Goals as goal

pub returns : goal.returns
returns c = λ it at.
    let links = c.args.network.now.links in
    let seats = c.args.seats.now in
    let mine : Seat = c.index-seats-place.result in
    let is : mine ≡ it = same_at seats c.args.place mine it (c.requires, sym c.index-seats-place.is) at in
    subst (λ (s : Seat). IfOk c.onward.result (λ found. AreOnward links seats s c.args.count found.items)) is
    (if_ok {P = λ found. (path : List ℕ) → (Contains found.items path ↔ GoesOnOver links seats mine c.bound_of-bound.result.now c.args.count path)}
    {Q = λ found. AreOnward links seats mine c.args.count found.items} c.onward.result
    (λ found exact. record { bound = c.bound_of-bound.result.now; is = c.bound_of-bound.ensures; exact = exact }) c.onward.ensures)
