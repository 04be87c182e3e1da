use Rattle.std.proofs.Common.{◌≡◌}
use Rattle.ranked_policy.proofs.WayLemmas.{rising_insert, any_insert}
use Rattle.ranked_policy.proofs.ways.add.Goals as goal

pub returns-in-Err-clause-rising : goal.returns-in-Err-clause-rising
returns-in-Err-clause-rising c =
    let ways = c.args.ways.now.items in
    let place = c.in-Err.place in
    rw (c.insert.ensures.items, c.insert.ensures.succeeds c.requires.room)
    (rising_insert ways place (record { one = c.args.one; other = c.args.other }) c.requires.rising (rw c.as_slice.ensures.value at c.in-Err.ensures.before) (rw c.as_slice.ensures.value at c.in-Err.ensures.behind))

pub returns-in-Err-clause-adds : goal.returns-in-Err-clause-adds
returns-in-Err-clause-adds c u v =
    rw (c.insert.ensures.items, c.insert.ensures.succeeds c.requires.room) (any_insert (λ way. (way.one ≡ u) × (way.other ≡ v)) c.args.ways.now.items c.in-Err.place (record { one = c.args.one; other = c.args.other }))
