use Rattle.std.proofs.Common.{arith}
use Rattle.schedule_text.proofs.Texts.{passed_on, refuses_at}
use Rattle.schedule_text.proofs.schedule.read_schedule.Goals as goal

pub returns-in-Err-clause-err : goal.returns-in-Err-clause-err
returns-in-Err-clause-err c =
    refuses_at c.args.network.now c.args.before _ _ _ c.lines.line c.lines.orders.items c.next_line.result.0.now c.in-Err.code c.next_line.ensures.lines c.lines.invariant.passed c.in-Err.ensures.err

pub lines-preserved : goal.lines-preserved
lines-preserved c = record {
  passed = passed_on c.args.network.now c.args.before _ _ _ c.lines.line c.lines.orders.items c.read_line.new.orders.items c.next_line.result.0.now c.next_line.ensures.lines c.lines.invariant.passed c.in_default.ensures.good c.in_default.ensures.ok;
  begun = omega (arith, c.lines.invariant.begun);
  inside = omega (arith, c.lines.invariant.inside, c.next_line.ensures.shorter);
}
