use Rattle.std.proofs.Common.{ℕ, List, ◌∷◌, arith, ◌∙◌, sym, subst}
use Rattle.std.specs.Prelude.{MatchOption, []}
use Rattle.std.proofs.lemmas.Option.{same_Some}
use Rattle.rib_tables.specs.declared.row.Row.{Row}
use Rattle.rib_tables.specs.Rows.{IsRowBest}
use Rattle.rib_tables.proofs.ChoiceLemmas.{never}
use Rattle.rib_tables.proofs.DecidingLemmas.{read_at, clear_more, decided_more, all_decided, first_fails, row_best_once, settled_by}
use Rattle.rib_tables.proofs.row.first_undecided.Goals as goal

pub loop-preserved : goal.loop-preserved
loop-preserved c =
    let rows = c.args.rows.now in
    let first = c.in_ok-prefix_at.ensures in
    let row = c.index-rows-prefix_at.result in
    let at = read_at rows c.in_ok-prefix_at.prefix_at row c.if-prefix_at-rows.false c.index-rows-prefix_at.is in
    record {
      clear = clear_more c.loop.counter c.in_ok-prefix_at.prefix_at c.loop.dirty c.take_out.new.self c.loop.invariant.clear first.1 first.2 c.take_out.ensures.here c.take_out.ensures.others;
      decided = λ net judged decided.
          let Best : List ℕ → Type 0 = IsRowBest net c.args.router c.args.peers.now row in
          let is = judged.each c.in_ok-prefix_at.prefix_at row at in
          let once = row_best_once net c.args.router c.args.peers.now row judged.network judged.routers is c.each_policy_is_an_order.ensures in
          let way = settled_by Best once c.as_slice.result.now (λ rest. c.args.router ∷ rest.now) c.best_way-way.result (c.best_way-way.ensures net judged.network judged.routers is) in
          decided_more net c.args.router c.args.peers.now rows c.loop.dirty (c.loop.invariant.decided net judged decided) c.in_ok-prefix_at.prefix_at row c.take_out.new.self at
          (subst Best c.as_slice.ensures (way.0 (c.goes_on.ensures.0 c.if-not-goes_on.false))) c.take_out.ensures.others;
    }

-- the first place of the set whose kept path is not the best
pub returns-then-not-goes_on-clause-least : goal.returns-then-not-goes_on-clause-least
returns-then-not-goes_on-clause-least c = λ net judged decided.
    let rows = c.args.rows.now in
    let row = c.index-rows-prefix_at.result in
    let at = read_at rows c.in_ok-prefix_at.prefix_at row c.if-prefix_at-rows.false c.index-rows-prefix_at.is in
    let Best : List ℕ → Type 0 = IsRowBest net c.args.router c.args.peers.now row in
    let is = judged.each c.in_ok-prefix_at.prefix_at row at in
    let once = row_best_once net c.args.router c.args.peers.now row judged.network judged.routers is c.each_policy_is_an_order.ensures in
    let way = settled_by Best once c.as_slice.result.now (λ rest. c.args.router ∷ rest.now) c.best_way-way.result (c.best_way-way.ensures net judged.network judged.routers is) in
    first_fails net c.args.router c.args.peers.now rows c.loop.dirty (c.loop.invariant.decided net judged decided) c.in_ok-prefix_at.prefix_at row at
    (λ best. never (sym c.if-not-goes_on.true ∙ c.goes_on.ensures.1 (way.1 (subst Best (sym c.as_slice.ensures) best)))) c.in_ok-prefix_at.ensures.2

pub returns-then-not-goes_on-clause-best : goal.returns-then-not-goes_on-clause-best
returns-then-not-goes_on-clause-best c = λ net judged r there.
    let rows = c.args.rows.now in
    let row = c.index-rows-prefix_at.result in
    let at = read_at rows c.in_ok-prefix_at.prefix_at row c.if-prefix_at-rows.false c.index-rows-prefix_at.is in
    subst (λ (s : Row). MatchOption c.best_way-way.result (IsRowBest net c.args.router c.args.peers.now s []) (λ rest. IsRowBest net c.args.router c.args.peers.now s (c.args.router ∷ rest.now))) (same_Some row r (sym at ∙ there))
    (c.best_way-way.ensures net judged.network judged.routers (judged.each c.in_ok-prefix_at.prefix_at row at))

-- all places were taken out
pub returns-clause-least : goal.returns-clause-least
returns-clause-least c = λ net judged decided.
    all_decided net c.args.router c.args.peers.now c.args.rows.now c.loop.dirty (c.loop.invariant.decided net judged decided) (λ i lt.
    let few = c.requires.few in
    let done = c.loop-test.false in
    c.loop.invariant.clear i (omega (arith, lt, few, done)))
