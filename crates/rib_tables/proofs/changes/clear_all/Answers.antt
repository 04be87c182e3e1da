use Rattle.std.proofs.Common.{arith}
use Rattle.std.proofs.lemmas.Option.{slice_get_within}
use Rattle.rib_tables.specs.Rows.{clearing}
use Rattle.rib_tables.proofs.ChangeLemmas.{map_by_places}
use Rattle.rib_tables.proofs.changes.clear_all.Goals as goal

pub returns-clause-rows : goal.returns-clause-rows
returns-clause-rows c =
    let done = c.loop-prefix_at-test.false in
    map_by_places clearing c.args.rows.now.items c.loop-prefix_at.rows.items c.loop-prefix_at.invariant.len
    (λ i r at. let lt = slice_get_within c.args.rows.now.items i r at in c.loop-prefix_at.invariant.passed i r (omega (arith, lt, done)) at)
