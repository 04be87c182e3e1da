use Rattle.std.proofs.Common.{arith}
use Rattle.stable_search.proofs.ListingLemmas.{same_size, next_round}
use Rattle.stable_search.proofs.listing.list_round.Goals as goal

pub list_at-requires-clause-place : goal.list_at-requires-clause-place
list_at-requires-clause-place c =
    let size = same_size c.args.instance.now c.args.count c.loop-place.place c.args.count 0 c.loop-place.seats.items c.args.seats.now.items c.loop-place.invariant c.requires.listed in
    omega (arith, size, c.loop-place-test.true, c.len-place-end.ensures)

pub returns-clause-listed : goal.returns-clause-listed
returns-clause-listed c =
    let size = same_size c.args.instance.now c.args.count c.loop-place.place c.args.count 0 c.loop-place.seats.items c.args.seats.now.items c.loop-place.invariant c.requires.listed in
    next_round c.args.instance.now c.args.count c.loop-place.place c.loop-place.seats.items c.loop-place.invariant (omega (arith, size, c.loop-place-test.false, c.len-place-end.ensures))
