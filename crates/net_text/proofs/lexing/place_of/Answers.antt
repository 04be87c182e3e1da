use Rattle.std.proofs.Common.{◌≢◌, ◌==◌, get_or, arith}
use Rattle.std.proofs.lemmas.Bool.{eqb-true, eqb-false}
use Rattle.net_text.proofs.MarkLemmas.{both_parts, none_passes, first_passes}
use Rattle.net_text.proofs.lexing.place_of.Goals as goal

pub returns-then-marks-ne0-clause-bound : goal.returns-then-marks-ne0-clause-bound
returns-then-marks-ne0-clause-bound c =
    let first = first_passes (λ x. x == c.args.wanted) c.args.octets.now c.loop-at.at 16 c.marks_of-marks.result (omega arith) (omega arith) c.marks_of-marks.ensures (omega arith) in
    omega (arith, first.inside)

pub returns-then-marks-ne0-clause-before : goal.returns-then-marks-ne0-clause-before
returns-then-marks-ne0-clause-before c =
    let w = c.args.octets.now in
    let first = first_passes (λ x. x == c.args.wanted) w c.loop-at.at 16 c.marks_of-marks.result (omega arith) (omega arith) c.marks_of-marks.ensures (omega arith) in
    both_parts (λ k. get_or w k 0 ≢ c.args.wanted) c.loop-at.at _ c.loop-at.invariant.clear (λ k low lt. eqb-false (get_or w k 0) c.args.wanted (first.before k low lt))

pub returns-then-marks-ne0-clause-found : goal.returns-then-marks-ne0-clause-found
returns-then-marks-ne0-clause-found c =
    let w = c.args.octets.now in
    let first = first_passes (λ x. x == c.args.wanted) w c.loop-at.at 16 c.marks_of-marks.result (omega arith) (omega arith) c.marks_of-marks.ensures (omega arith) in
    λ lt. eqb-true (get_or w _ 0) c.args.wanted first.there

pub loop-at-preserved : goal.loop-at-preserved
loop-at-preserved c =
    let w = c.args.octets.now in
    let none = none_passes (λ x. x == c.args.wanted) w c.loop-at.at 16 c.marks_of-marks.result (omega arith) c.marks_of-marks.ensures (omega arith) in
    record {
      inside = omega arith;
      clear = both_parts (λ k. get_or w k 0 ≢ c.args.wanted) c.loop-at.at 16 c.loop-at.invariant.clear (λ k low lt. eqb-false (get_or w k 0) c.args.wanted (none k low lt));
    }
