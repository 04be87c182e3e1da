use Rattle.std.proofs.Common.{◌≤◌, ◌<◌, ◌∙◌, length, arith, ap, sym, true, false, refl, take}
use Rattle.world_core.specs.declared.counts.Counts.{Counts}
use Rattle.world_core.specs.Counting.{count_of}
use Rattle.world_core.specs.Picking.{is_take}
use Rattle.world_core.proofs.Counting.{taken_fit, taken_one, taken_none, outside, no_take}
use Rattle.world_core.proofs.reordering.taken_inside.Goals as goal
use Rattle.world_core.proofs.reordering.taken_inside.Goals.{in-Take+then-inside-at+in_ok-add, in-Take+else-inside-at, in_default}

pub add-requires : goal.add-requires
add-requires c =
    let l = c.loop-at in
    let few : count_of l.counts c.in-Take.peer c.in-Take.number ≤ l.at =
    taken_fit (take l.at c.args.inside.now) c.args.run.now l.at (count_of l.counts c.in-Take.peer c.in-Take.number) c.in-Take.peer c.in-Take.number (omega arith) (l.invariant c.in-Take.peer c.in-Take.number) in
    omega arith

pub loop-at-preserved : goal.loop-at-preserved
loop-at-preserved c =
    let l = c.loop-at in
    let inside = c.args.inside.now in
    let run = c.args.run.now in
    let event = c.index-run-at.result in
    let here : l.at < length inside = omega arith in
    let there : l.at < length run = omega arith in
    elim c.match-event.branch [
      | in-Take+then-inside-at+in_ok-add w ↦ (λ u v.
          ap (λ (k : Counts). count_of k u v) w.counts-is
          ∙ taken_one l.counts w.add.new.self inside run l.at w.in-Take.number w.in-Take.peer true false event event here there (sym w.if-inside-at.true) refl c.index-run-at.is w.in-Take.is w.in_ok-add.ensures l.invariant u v)
      | in-Take+else-inside-at w ↦ (λ u v.
          ap (λ (k : Counts). count_of k u v) w.counts-is
          ∙ taken_none l.counts inside run l.at false false event event here there (sym w.if-inside-at.false) c.index-run-at.is (λ a b. outside false (is_take a b event) refl) l.invariant u v)
      | in_default w ↦ (λ u v.
          ap (λ (k : Counts). count_of k u v) w.counts-is
          ∙ taken_none l.counts inside run l.at _ false event event here there refl c.index-run-at.is (no_take _ event w.in_default.not-Take) l.invariant u v)
    ]
