use Rattle.std.proofs.Common.{◌≡◌, ◌∙◌, ◌≤◌, [], get_or, arith}
use Rattle.std.proofs.lemmas.List.{get_or_default}
use Rattle.wheel_search.proofs.RowLemmas.{reached_more, reached_all}
use Rattle.wheel_search.proofs.row.reach.Goals as goal
use Rattle.wheel_search.proofs.row.reach.Goals.{then-rest-longest, else-rest-longest}

pub loop-path-preserved : goal.loop-path-preserved
loop-path-preserved c =
    let p = c.args.instance.now in
    let i = c.loop-path.path-index in
    let new = c.if-rest-longest.longest in
    let high : (c.free_rest-rest.result ≤ new) × (c.loop-path.longest ≤ new) = elim c.if-rest-longest.branch [
      | then-rest-longest w ↦ (omega (arith, w.longest-is), omega (arith, w.longest-is, w.if-rest-longest.true))
      | else-rest-longest w ↦ (omega (arith, w.longest-is, w.if-rest-longest.false), omega (arith, w.longest-is))
    ] in
    let here : c.as_slice.result.now ≡ get_or c.args.paths.now i [] = c.as_slice.ensures ∙ c.path-item.is ∙ get_or_default c.args.paths.now i c.path-item.result [] c.loop-path-test.true in (
      reached_more p c.loop-path.longest new c.args.router c.args.paths.now i high.1 c.loop-path.invariant.0
          (λ v rest e none. omega (arith, high.0, c.free_rest-rest.ensures c.args.router v rest (here ∙ e) none)),
      omega (arith, c.loop-path.invariant.1, high.1),
    )

pub returns-clause-within : goal.returns-clause-within
returns-clause-within c =
    let p = c.args.instance.now in
    reached_all p c.loop-path.longest c.args.router c.args.paths.now
    (λ k l. c.loop-path.invariant.0 k (omega (arith, l, c.loop-path-test.false)))
