use Rattle.std.proofs.Common.{sym, ◌∙◌, arith}
use Rattle.net_text.proofs.NetworkLemmas.{no_lines, some_octets}
use Rattle.net_text.proofs.SectionLemmas.{passed_on, found_front, found_behind, found_before, none_front, none_behind, none_before}
use Rattle.net_text.proofs.sections.split_at_section.Goals as goal

pub lines-preserved : goal.lines-preserved
lines-preserved c = record {
  passed = passed_on c.args.name.now c.args.text.now c.lines.left.now c.next_line.result.1.now c.next_line.result.0.now _ c.lines.before (some_octets c.lines.left.now c.lines-test.ensures)
      c.next_line.ensures.whole c.next_line.ensures.lines c.next_line.ensures.others (sym c.is_section.ensures ∙ c.if-is_section.false) c.lines.invariant.passed;
  inside = omega (arith, c.lines.invariant.inside, c.next_line.ensures.shorter);
}

pub returns-then-is_section-clause-front : goal.returns-then-is_section-clause-front
returns-then-is_section-clause-front c =
    rw c.split_at.ensures.front
    (found_front c.args.name.now c.args.text.now c.lines.left.now c.next_line.result.1.now c.next_line.result.0.now c.lines.before c.next_line.ensures.lines (sym c.is_section.ensures ∙ c.if-is_section.true) c.lines.invariant.passed)

pub returns-then-is_section-clause-behind : goal.returns-then-is_section-clause-behind
returns-then-is_section-clause-behind c =
    found_behind c.args.name.now c.args.text.now c.lines.left.now c.next_line.result.1.now c.next_line.result.0.now c.lines.before c.next_line.ensures.lines (sym c.is_section.ensures ∙ c.if-is_section.true) c.lines.invariant.passed

pub returns-then-is_section-clause-before : goal.returns-then-is_section-clause-before
returns-then-is_section-clause-before c = found_before c.args.name.now c.args.text.now c.lines.left.now c.next_line.result.1.now c.next_line.result.0.now c.lines.before c.next_line.ensures.lines c.lines.invariant.passed

pub returns-clause-front : goal.returns-clause-front
returns-clause-front c = none_front c.args.name.now c.args.text.now c.lines.left.now c.lines.before (no_lines c.lines.left.now c.lines-test.ensures) c.lines.invariant.passed

pub returns-clause-behind : goal.returns-clause-behind
returns-clause-behind c = none_behind c.args.name.now c.args.text.now c.lines.left.now c.lines.before (no_lines c.lines.left.now c.lines-test.ensures) c.lines.invariant.passed

pub returns-clause-before : goal.returns-clause-before
returns-clause-before c = none_before c.args.name.now c.args.text.now c.lines.left.now c.lines.before (no_lines c.lines.left.now c.lines-test.ensures) c.lines.invariant.passed
