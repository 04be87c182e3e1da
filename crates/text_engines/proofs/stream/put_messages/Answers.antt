use Rattle.std.proofs.Common.{arith, ap, length-drop, length}
use Rattle.text_engines.proofs.PrintingLemmas.{goes_on, ends, stops_at_fault}
use Rattle.text_engines.proofs.stream.put_messages.Goals as goal

pub fault_lines-requires : goal.fault_lines-requires
fault_lines-requires c = omega (arith, c.header_fault_is_short.ensures c.split_at.result.1.now c.in-Bad.fault c.in-Bad.ensures.1)

pub returns-in-Some-clause-text : goal.returns-in-Some-clause-text
returns-in-Some-clause-text c = λ before leads.
    ends c.splits_once.ensures c.splits_behind_a_frame.ensures c.splits_into_nothing.ensures c.args.rule.now before c.args.octets.now c.split_at.result.1.now c.front.out.items c.put_frame.new.out.items
    c.front.at c.in-Whole.end c.in-Some.status _ c.in-Some.is c.split_at.ensures.back c.in-Whole.ensures.1 c.in-Whole.ensures.2 (rw c.split_at-in-Whole.ensures.front at c.in_ok-status-in-Whole.ensures)
    (c.front.invariant.1 before leads)

pub front-preserved : goal.front-preserved
front-preserved c = (
  omega (arith, c.front.invariant.0, c.in-Whole.ensures.1, ap length c.split_at.ensures.back, length-drop c.front.at c.args.octets.now),
  λ before leads.
      goes_on c.splits_once.ensures c.splits_behind_a_frame.ensures c.splits_into_nothing.ensures c.args.rule.now before c.args.octets.now c.split_at.result.1.now c.front.out.items c.put_frame.new.out.items
      c.front.at c.in-Whole.end _ c.in_default.is c.split_at.ensures.back c.in-Whole.ensures.1 c.in-Whole.ensures.2 (rw c.split_at-in-Whole.ensures.front at c.in_ok-status-in-Whole.ensures)
      (c.front.invariant.1 before leads),
)

pub returns-in-Bad-clause-text : goal.returns-in-Bad-clause-text
returns-in-Bad-clause-text c = λ before leads.
    stops_at_fault c.splits_once.ensures c.splits_behind_a_frame.ensures c.splits_into_nothing.ensures c.args.rule.now before c.args.octets.now c.split_at.result.1.now c.front.out.items c.fault_lines.new.out.items
    c.front.at c.in-Bad.fault c.split_at.ensures.back c.in-Bad.ensures.0 c.in-Bad.ensures.1 c.in_ok-fault_lines-in-Bad.ensures.ok (c.front.invariant.1 before leads)
