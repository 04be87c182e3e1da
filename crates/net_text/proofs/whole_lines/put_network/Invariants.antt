-- what was put, before what is left, is what all are printed as; and what the buffer had stands in front
use Rattle.std.proofs.Common.{◌≡◌, ◌++◌, length, take}
use Rattle.net_text.specs.Lexing.{lines_of}
use Rattle.net_text.specs.Layout.{network_text}
use Rattle.net_text.proofs.whole_lines.put_network.Given as goal

abbrev pub invariant-lines : goal.invariant-lines
invariant-lines l = record {
  put : l.out.items ++ network_text (lines_of l.left) ≡ l.fn.out.items ++ network_text (lines_of l.text);
  kept : take (length l.fn.out.items) l.out.items ≡ l.fn.out.items;
}

abbrev pub decreases-lines : goal.decreases-lines
decreases-lines l = length l.left
