-- what was written, before what is left, is what all are printed as, and there is room for the others
use Rattle.std.proofs.Common.{◌≡◌, ◌++◌, ◌+◌, ◌*◌, ◌≤◌, length, take}
use Rattle.std.specs.List.{flat_map}
use Rattle.net_text.specs.Printing.{prefix_text}
use Rattle.net_text.proofs.update_lines.write_prefixes.Given as goal

abbrev pub invariant-prefixes : goal.invariant-prefixes
invariant-prefixes l =
    record {
      text : take l.at l.text ++ flat_map prefix_text l.left ≡ take l.start l.fn.text ++ flat_map prefix_text l.fn.prefixes;
      room : l.at + 21 * length l.left ≤ length l.text;
      end : l.at + 20 * length l.left ≤ l.start + 20 * length l.fn.prefixes;
    }

abbrev pub decreases-prefixes : goal.decreases-prefixes
decreases-prefixes l = length l.left
