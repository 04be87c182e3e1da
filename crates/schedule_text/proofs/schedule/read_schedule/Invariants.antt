-- the lines passed have led to the orders, and none of them has a fault
use Rattle.std.proofs.Common.{◌+◌, ◌≤◌, length}
use Rattle.net_text.specs.Lexing.{lines_of}
use Rattle.schedule_text.proofs.Texts.{Passed}
use Rattle.schedule_text.proofs.schedule.read_schedule.Given as goal

abbrev pub invariant-lines : goal.invariant-lines
invariant-lines l =
    record {
      passed : Passed l.network l.fn.before (lines_of l.text) (lines_of l.left) l.line l.orders.items;
      begun : l.fn.before ≤ l.line;
      inside : l.line + length l.left ≤ l.fn.before + length l.text;
    }

abbrev pub decreases-lines : goal.decreases-lines
decreases-lines l = length l.left
