use Rattle.std.proofs.Common.{◌≤◌, take, Some, arith, IsTrue, subst, sym}
use Rattle.std.proofs.lemmas.List.{length-take-le}
use Rattle.std.proofs.lemmas.Bool.{both_ways}
use Rattle.prefix_lanes.specs.Columns.{is_alike}
use Rattle.prefix_lanes.proofs.Candidates.{best_stays, best_changes, best_at}
use Rattle.prefix_lanes.proofs.Found.{alike_covers}
use Rattle.prefix_lanes.proofs.Prefixes.{covers_length}
use Rattle.prefix_lanes.proofs.cover_table.better_alike.Goals as goal
use Rattle.prefix_lanes.proofs.cover_table.better_alike.Goals.{else-len-most-via-then-len-most+else-is_longer, else-len-most-via-else-len-most}

-- the entry covers where it is no longer than the prefix
pub returns-then-is_longer : goal.returns-then-is_longer
returns-then-is_longer c =
    let entries = c.args.entries.now in
    let q = c.args.prefix.now in
    let place = c.args.place in
    let e = c.index-entries-place.result in
    let alike : IsTrue (is_alike q e) = subst (λ p. IsTrue (is_alike q p)) (sym c.index-entries-place.is) (c.requires.alike e) in
    let short : e.len ≤ q.len = omega (arith, c.if-len-most.true, c.len-len.ensures.value, c.len-most.ensures.value) in
    best_at entries q (Some (record { place = place; len = c.len-len.result })) place e c.requires.inside c.index-entries-place.is
    (rw c.len-len.ensures.value
    (best_changes (take place entries) q c.args.best e place (length-take-le place entries (omega (arith, c.requires.inside))) (alike_covers e q c.len-len.ensures.canonical c.len-most.ensures.canonical alike short)
    (rw (← c.len-len.ensures.value) (c.is_longer.ensures.0 c.if-is_longer.true)) c.requires.best))

pub returns : goal.returns
returns c =
    let entries = c.args.entries.now in
    let q = c.args.prefix.now in
    let e = c.index-entries-place.result in
    best_at entries q c.args.best c.args.place e c.requires.inside c.index-entries-place.is
    (best_stays (take c.args.place entries) q c.args.best e
    (elim c.else-len-most.branch [
      | else-len-most-via-then-len-most+else-is_longer v ↦ λ covers longer. both_ways v.is_longer.result v.if-is_longer.false (v.is_longer.ensures.1 (rw c.len-len.ensures.value longer))
      | else-len-most-via-else-len-most v ↦ λ covers longer. omega (arith, v.if-len-most.false, c.len-len.ensures.value, c.len-most.ensures.value, covers_length e q c.len-len.ensures.canonical c.len-most.ensures.canonical covers)
    ])
    c.requires.best)
