use Rattle.std.proofs.lemmas.Bool.{iff_false}
use Rattle.std.specs.List.{All}
use Rattle.ranked_policy.specs.Plans.{IsRouter}
use Rattle.ranked_policy.proofs.Loops.{all_more, all_fails, all_done}
use Rattle.ranked_policy.proofs.admission.are_known.Goals as goal

pub returns-then-not-are_routers : goal.returns-then-not-are_routers
returns-then-not-are_routers c =
    all_fails (All (IsRouter c.args.routers.now)) c.args.paths.now c.loop-path.path-index c.path-item.result c.loop-path-test.true c.path-item.is
    (iff_false (rw c.as_slice.ensures at c.are_routers.ensures) c.if-not-are_routers.true)

pub loop-path-preserved : goal.loop-path-preserved
loop-path-preserved c =
    all_more (All (IsRouter c.args.routers.now)) c.args.paths.now c.loop-path.path-index c.path-item.result c.loop-path-test.true c.path-item.is c.loop-path.invariant
    ((rw c.as_slice.ensures at c.are_routers.ensures).0 c.if-not-are_routers.false)

pub returns : goal.returns
returns c = all_done (All (IsRouter c.args.routers.now)) c.args.paths.now c.loop-path.path-index c.loop-path-test.false c.loop-path.invariant
