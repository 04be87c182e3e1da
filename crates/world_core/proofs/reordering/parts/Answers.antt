use Rattle.std.proofs.Common.{◌≤◌, ◌<◌, ◌∙◌, ◌+◌, ◌++◌, ◌∷◌, [], length, arith, ap, sym, false, refl, take, get_or}
use Rattle.world_core.specs.Counting.{count_of}
use Rattle.world_core.specs.Picking.{puts_by}
use Rattle.world_core.proofs.Counting.{puts_fit, next, joins_first, joins_later, parted_at}
use Rattle.world_core.proofs.reordering.parts.Goals as goal
use Rattle.world_core.proofs.reordering.parts.Goals.{then-branch+in_ok-push, else-branch+in_ok-push-2}

pub goes_first-requires : goal.goes_first-requires
goes_first-requires c = λ u v.
    let l = c.loop-at in
    let few : count_of l.put u v ≤ l.at = puts_fit l.put c.args.run.now l.at (omega arith) l.invariant.put u v in
    omega arith

pub loop-at-preserved : goal.loop-at-preserved
loop-at-preserved c =
    let l = c.loop-at in
    let needed = count_of c.args.needed.now in
    let inside = c.args.inside.now in
    let run = c.args.run.now in
    let event = c.index-run-at.result in
    let is_inside = get_or inside l.at false in
    let here : l.at < length inside = omega arith in
    let there : l.at < length run = omega arith in
    let says = c.in_ok-goes_first.ensures (take l.at run) l.invariant.put in
    record {
      put = λ u v. says.1 u v ∙ ap (puts_by u v) (sym (next run l.at event event there c.index-run-at.is));
      parts = elim c.if-branch.branch [
        | then-branch+in_ok-push w ↦ parted_at needed inside run (l.at + 1) (l.first.items ++ event ∷ []) l.later.items c.if-branch.first.items c.if-branch.later.items
            ((λ i. (w.first-is i).items) ∙ w.in_ok-push.ensures.items) (λ i. (w.later-is i).items)
            (joins_first needed inside run l.at is_inside false c.in_ok-goes_first.field-0 event event l.first.items l.later.items here there refl c.index-run-at.is says.0 w.if-branch.true l.invariant.parts)
        | else-branch+in_ok-push-2 w ↦ parted_at needed inside run (l.at + 1) l.first.items (l.later.items ++ event ∷ []) c.if-branch.first.items c.if-branch.later.items
            (λ i. (w.first-is i).items) ((λ i. (w.later-is i).items) ∙ w.in_ok-push-2.ensures.items)
            (joins_later needed inside run l.at is_inside false c.in_ok-goes_first.field-0 event event l.first.items l.later.items here there refl c.index-run-at.is says.0 w.if-branch.false l.invariant.parts)
      ];
    }
