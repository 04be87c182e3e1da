use Rattle.std.proofs.Common.{◌≡◌, nat_le, false, get_or, sym, arith}
use Rattle.net_text.proofs.MarkLemmas.{both_parts, none_passes, not_ascii, last_decides}
use Rattle.net_text.proofs.lexing.is_ascii.Goals as goal

pub returns-then-others-ne0 : goal.returns-then-others-ne0
returns-then-others-ne0 c = sym (not_ascii c.args.line.now c.loop-at.at c.others.result (omega arith) c.others.ensures (omega arith))

pub loop-at-preserved : goal.loop-at-preserved
loop-at-preserved c =
    let w = c.args.line.now in
    let none = none_passes (λ x. nat_le 128 x) w c.loop-at.at 8 c.others.result (omega arith) c.others.ensures (omega arith) in
    record {
      inside = omega arith;
      clear = both_parts (λ k. nat_le 128 (get_or w k 0) ≡ false) c.loop-at.at 8 c.loop-at.invariant.clear none;
    }

pub returns : goal.returns
returns c = last_decides c.args.line.now c.loop-at.at _ c.others-2.result c.loop-at.invariant.clear (omega arith) (omega arith) c.others-2.ensures
