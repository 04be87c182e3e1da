use Rattle.std.proofs.Common.{arith, ◌≤◌, ◌<◌, length, true, false, sym}
use Rattle.world_core.proofs.Counting.{true_fit, true_one}
use Rattle.world_core.proofs.reordering.count_true.Goals as goal
use Rattle.world_core.proofs.reordering.count_true.Goals.{then-is_inside, else-is_inside}

pub overflow_add-count : goal.overflow_add-count
overflow_add-count c =
    let few : c.loop-is_inside.count ≤ c.loop-is_inside.is_inside-index = true_fit c.args.inside.now c.loop-is_inside.is_inside-index c.loop-is_inside.count (omega arith) c.loop-is_inside.invariant in
    omega arith

pub loop-is_inside-preserved : goal.loop-is_inside-preserved
loop-is_inside-preserved c =
    let l = c.loop-is_inside in
    let here : l.is_inside-index < length c.args.inside.now = omega arith in
    elim c.if-is_inside.branch [
      | then-is_inside w ↦ (let k = true_one c.args.inside.now l.is_inside-index l.count true false here (sym w.if-is_inside.true) l.invariant in omega arith)
      | else-is_inside w ↦ (let k = true_one c.args.inside.now l.is_inside-index l.count false false here (sym w.if-is_inside.false) l.invariant in omega arith)
    ]
