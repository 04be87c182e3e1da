use Rattle.std.proofs.Common.{◌≤◌, length, arith}
use Rattle.ranked_policy.proofs.Loops.{all_more, all_done}
use Rattle.ranked_policy.proofs.admission.are_short.Goals as goal

pub loop-path-preserved : goal.loop-path-preserved
loop-path-preserved c =
    all_more (λ path. length path ≤ 16) c.args.paths.now c.loop-path.path-index c.path-item.result c.loop-path-test.true c.path-item.is c.loop-path.invariant
    (omega arith)

pub returns : goal.returns
returns c = all_done (λ path. length path ≤ 16) c.args.paths.now c.loop-path.path-index c.loop-path-test.false c.loop-path.invariant
