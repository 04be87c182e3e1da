use Rattle.std.proofs.Common.{◌<◌, arith}
use Rattle.prefix_lanes.proofs.Found.{next_within, next_alike, up_to_next, behind_next, none_left}
use Rattle.prefix_lanes.proofs.cover_table.best_of_found.Goals as goal

pub better_alike-best-requires-clause-inside : goal.better_alike-best-requires-clause-inside
better_alike-best-requires-clause-inside c =
    let some : 0 < c.loop-left.left = omega arith in
    omega (arith, (next_within c.args.entries.now c.args.prefix.now c.args.from c.loop-left.at c.loop-left.left c.loop-left.best c.requires.room c.loop-left.invariant some).0, c.requires.room)

pub better_alike-best-requires-clause-best : goal.better_alike-best-requires-clause-best
better_alike-best-requires-clause-best c =
    up_to_next c.args.entries.now c.args.prefix.now c.args.from c.loop-left.at c.loop-left.left c.loop-left.best c.requires.room c.requires.canonical.0 c.requires.canonical.1 c.loop-left.invariant (omega arith)

pub better_alike-best-requires-clause-alike : goal.better_alike-best-requires-clause-alike
better_alike-best-requires-clause-alike c =
    next_alike c.args.entries.now c.args.prefix.now c.args.from c.loop-left.at c.loop-left.left c.loop-left.best c.requires.room c.loop-left.invariant (omega arith)

pub loop-left-preserved : goal.loop-left-preserved
loop-left-preserved c =
    let some : 0 < c.loop-left.left = omega arith in
    let next = next_within c.args.entries.now c.args.prefix.now c.args.from c.loop-left.at c.loop-left.left c.loop-left.best c.requires.room c.loop-left.invariant some in
    behind_next c.args.entries.now c.args.prefix.now c.args.from c.loop-left.at c.loop-left.left _ c.loop-left.best c.better_alike-best.result c.loop-left.invariant next.0 c.better_alike-best.ensures

pub returns : goal.returns
returns c =
    none_left c.args.entries.now c.args.prefix.now c.args.from c.loop-left.at c.loop-left.left c.loop-left.best c.requires.room c.requires.canonical.0 c.requires.canonical.1 c.loop-left.invariant (omega arith)
