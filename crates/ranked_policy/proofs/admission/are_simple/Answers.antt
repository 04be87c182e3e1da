use Rattle.std.proofs.lemmas.Bool.{iff_false}
use Rattle.ranked_policy.specs.Paths.{BeginsWith, IsSimple}
use Rattle.ranked_policy.proofs.Loops.{all_more, all_fails, all_done}
use Rattle.ranked_policy.proofs.admission.are_simple.Goals as goal
use Rattle.ranked_policy.proofs.admission.are_simple.Goals.{then-not-begins_with-via-then-not-begins_with, then-not-begins_with-via-else-not-begins_with+then-not-is_simple}

pub returns-then-not-begins_with : goal.returns-then-not-begins_with
returns-then-not-begins_with c =
    all_fails (λ path. BeginsWith path c.args.router × IsSimple path) c.args.paths.now c.loop-path.path-index c.path-item.result c.loop-path-test.true c.path-item.is
    (elim c.then-not-begins_with.branch [
      | then-not-begins_with-via-then-not-begins_with w ↦ λ h. iff_false (rw c.as_slice-numbers.ensures at c.begins_with.ensures) w.if-not-begins_with.true h.0
      | then-not-begins_with-via-else-not-begins_with+then-not-is_simple w ↦ λ h. iff_false (rw c.as_slice-numbers.ensures at w.is_simple.ensures) w.if-not-is_simple.true h.1
    ])

pub loop-path-preserved : goal.loop-path-preserved
loop-path-preserved c =
    all_more (λ path. BeginsWith path c.args.router × IsSimple path) c.args.paths.now c.loop-path.path-index c.path-item.result c.loop-path-test.true c.path-item.is
    c.loop-path.invariant
    ((rw c.as_slice-numbers.ensures at c.begins_with.ensures).0 c.if-not-begins_with.false, (rw c.as_slice-numbers.ensures at c.is_simple.ensures).0 c.if-not-is_simple.false)

pub returns : goal.returns
returns c = all_done (λ path. BeginsWith path c.args.router × IsSimple path) c.args.paths.now c.loop-path.path-index c.loop-path-test.false c.loop-path.invariant
