-- the lines passed have led to the entries, and none of them has a fault
use Rattle.std.proofs.Common.{◌+◌, ◌≤◌, length}
use Rattle.net_text.specs.Lexing.{lines_of}
use Rattle.net_text.proofs.NetworkLemmas.{EntriesReached}
use Rattle.net_text.proofs.assignment.read_assignment.Given as goal

abbrev pub invariant-lines : goal.invariant-lines
invariant-lines l =
    record {
      reached : EntriesReached l.network l.fn.before (lines_of l.text) l.line l.entries (lines_of l.left);
      begun : l.fn.before ≤ l.line;
      inside : l.line + length l.left ≤ l.fn.before + length l.text;
    }

abbrev pub decreases-lines : goal.decreases-lines
decreases-lines l = length l.left
