use Rattle.std.proofs.Common.{arith}
use Rattle.std.proofs.lemmas.Option.{slice_get_within}
use Rattle.rib_tables.specs.Rows.{forgetting}
use Rattle.rib_tables.proofs.ChangeLemmas.{map_by_places}
use Rattle.rib_tables.proofs.changes.forget_words.Goals as goal

pub returns-clause-rows : goal.returns-clause-rows
returns-clause-rows c =
    let done = c.loop-prefix_at-test.false in
    map_by_places (forgetting c.args.peer) c.args.rows.now c.loop-prefix_at.rows c.loop-prefix_at.invariant.len
    (λ i r at. let lt = slice_get_within c.args.rows.now i r at in c.loop-prefix_at.invariant.passed i r (omega (arith, lt, done)) at)

pub returns-clause-dirty : goal.returns-clause-dirty
returns-clause-dirty c =
    let done = c.loop-prefix_at-test.false in
    λ i out. let d = c.loop-prefix_at.invariant.dirty i out in
    (d.0, λ r at. let lt = slice_get_within c.args.rows.now i r at in d.1 r (omega (arith, lt, done)) at)
