use Rattle.std.proofs.Common.{◌∙◌, None, arith, take, sym, subst}
use Rattle.std.proofs.lemmas.Bool.{both_ways}
use Rattle.std.proofs.lemmas.List.{length-take-le}
use Rattle.prefix_lanes.specs.Best.{IsBest}
use Rattle.prefix_lanes.proofs.Candidates.{best_stays, best_changes, best_at, best_of_all}
use Rattle.prefix_lanes.proofs.Found.{columns_alike}
use Rattle.prefix_lanes.proofs.cover_table.longest_in.Goals as goal
use Rattle.prefix_lanes.proofs.cover_table.longest_in.Goals.{then-covers+then-is_longer, else-covers, else-covers-via-then-covers+else-is_longer, else-covers-via-else-covers}

pub best_of_found-best-requires-clause-found : goal.best_of_found-best-requires-clause-found
best_of_found-best-requires-clause-found c =
    c.alike-found.ensures ∙ columns_alike c.args.entries.now c.args.addrs.now c.args.masks.now c.args.prefix.now c.loop-from.from c.addr-addr.result c.requires c.addr-addr.ensures.value

-- the entry is the new candidate where it covers and is longer
pub loop-place-preserved : goal.loop-place-preserved
loop-place-preserved c =
    let entries = c.args.entries.now in
    let q = c.args.prefix.now in
    let place = c.loop-place.place in
    let e = c.index-entries-place.result in
    best_at entries q c.if-covers.best place e c.loop-place-test.true c.index-entries-place.is
    (elim c.if-covers.branch [
      | then-covers+then-is_longer v ↦
          subst (IsBest _ q) (sym v.best-is)
          (rw v.len-then-is_longer.ensures.value
          (best_changes (take place entries) q c.loop-place.best e place (length-take-le place entries (omega (arith, c.loop-place-test.true))) (c.covers.ensures.0 v.if-covers.true)
          (rw (← v.len.ensures.value) (v.is_longer.ensures.0 v.if-is_longer.true)) c.loop-place.invariant))
      | else-covers w ↦
          subst (IsBest _ q) (sym w.best-is)
          (best_stays (take place entries) q c.loop-place.best e
          (elim w.else-covers.branch [
            | else-covers-via-then-covers+else-is_longer v ↦ λ covers longer. both_ways v.is_longer.result v.if-is_longer.false (v.is_longer.ensures.1 (rw v.len.ensures.value longer))
            | else-covers-via-else-covers v ↦ λ covers longer. both_ways c.covers.result v.if-covers.false (c.covers.ensures.1 covers)
          ])
          c.loop-place.invariant)
    ])

pub returns-in-None : goal.returns-in-None
returns-in-None c = best_of_all c.args.entries.now c.args.prefix.now c.loop-place.best None c.loop-place.place c.loop-place-test.false c.in-None.is c.loop-place.invariant
