use Rattle.std.proofs.Common.{[], arith}
use Rattle.net_text.specs.Assignments.{entry_reading}
use Rattle.net_text.proofs.TextLemmas.{reached_on}
use Rattle.net_text.proofs.NetworkLemmas.{refuses_assignment}
use Rattle.net_text.proofs.assignment.read_assignment.Goals as goal

pub returns-in-Err-clause-err : goal.returns-in-Err-clause-err
returns-in-Err-clause-err c =
    refuses_assignment c.args.network.now c.args.before _ _ _ c.lines.line c.lines.entries c.next_line.result.0.now c.in-Err.code c.next_line.ensures.lines c.lines.invariant.reached c.in-Err.ensures

pub lines-preserved : goal.lines-preserved
lines-preserved c = record {
  reached = reached_on (entry_reading c.args.network.now) c.args.before [] c.lines.entries c.read_line.new.entries _ _ _ c.lines.line c.next_line.result.0.now c.next_line.ensures.lines c.lines.invariant.reached c.in_default.ensures;
  begun = omega (arith, c.lines.invariant.begun);
  inside = omega (arith, c.lines.invariant.inside, c.next_line.ensures.shorter);
}
