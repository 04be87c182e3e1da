use Rattle.std.proofs.Common.{sym, ap, ◌∙◌, arith}
use lib.Count.{count_trailing_zeros}
use Rattle.marker_lanes.proofs.Ones.{goes_on, stops}
use Rattle.marker_lanes.proofs.ones_run.Goals as goal

pub returns-then-found-ne0 : goal.returns-then-found-ne0
returns-then-found-ne0 c =
    let found = c.others-found in
    let run = stops c.args.octets.now c.loop-at.at (omega arith) (omega (arith, found.ensures)) ∙ ap (count_trailing_zeros 64) (sym found.ensures) in
    omega (arith, run, c.loop-at.invariant.0)

pub loop-at-preserved : goal.loop-at-preserved
loop-at-preserved c =
    let run = goes_on c.args.octets.now c.loop-at.at (omega arith) (omega (arith, c.others-found.ensures)) in
    (omega (arith, run, c.loop-at.invariant.0), omega arith)
