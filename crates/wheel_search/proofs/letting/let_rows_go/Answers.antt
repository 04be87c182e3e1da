use Rattle.std.proofs.Common.{arith}
use Rattle.wheel_search.proofs.letting.let_rows_go.Goals as goal

pub returns : goal.returns
returns c =
    let gone = c.loop-row.invariant.gone in
    (gone.turns, λ row place known below. gone.free row place (omega (arith, below, c.loop-row.invariant.all row (omega (arith, known, c.loop-row-test.false)))))
