use Rattle.std.proofs.Common.{◌≡◌, nat_le, false, get_or, arith}
use Rattle.net_text.specs.Lexing.{is_blank}
use Rattle.net_text.proofs.MarkLemmas.{both_parts, none_passes, first_passes, blank_is_low}
use Rattle.net_text.proofs.lexing.blank_from.Goals as goal

pub returns-then-marks-ne0-clause-bound : goal.returns-then-marks-ne0-clause-bound
returns-then-marks-ne0-clause-bound c =
    let first = first_passes (λ x. nat_le x 32) c.args.line.now c.loop-at.at 8 c.low_ones-marks.result (omega arith) (omega arith) c.low_ones-marks.ensures (omega arith) in
    omega (arith, first.inside)

pub returns-then-marks-ne0-clause-before : goal.returns-then-marks-ne0-clause-before
returns-then-marks-ne0-clause-before c =
    let w = c.args.line.now in
    let first = first_passes (λ x. nat_le x 32) w c.loop-at.at 8 c.low_ones-marks.result (omega arith) (omega arith) c.low_ones-marks.ensures (omega arith) in
    both_parts (λ k. is_blank (get_or w k 0) ≡ false) c.loop-at.at _ c.loop-at.invariant.clear (λ k low lt. blank_is_low (get_or w k 0) (first.before k low lt))

pub loop-at-preserved : goal.loop-at-preserved
loop-at-preserved c =
    let w = c.args.line.now in
    let none = none_passes (λ x. nat_le x 32) w c.loop-at.at 8 c.low_ones-marks.result (omega arith) c.low_ones-marks.ensures (omega arith) in
    record {
      inside = omega arith;
      clear = both_parts (λ k. is_blank (get_or w k 0) ≡ false) c.loop-at.at 8 c.loop-at.invariant.clear (λ k low lt. blank_is_low (get_or w k 0) (none k low lt));
    }
