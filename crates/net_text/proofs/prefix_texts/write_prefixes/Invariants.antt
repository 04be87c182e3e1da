-- what was written, before what is left, is what all are printed as, and there is room for the others
use Rattle.std.proofs.Common.{◌≡◌, ◌++◌, ◌+◌, ◌-◌, ◌*◌, ◌≤◌, length, take, drop}
use Rattle.std.specs.List.{flat_map}
use Rattle.net_text.specs.Printing.{prefix_text}
use Rattle.net_text.proofs.prefix_texts.write_prefixes.Given as goal

abbrev pub invariant-loop-prefix : goal.invariant-loop-prefix
invariant-loop-prefix l =
    record {
      text : take l.at l.text ++ flat_map prefix_text (drop l.prefix-index l.prefixes) ≡ take l.start l.fn.text ++ flat_map prefix_text l.prefixes;
      room : l.at + 21 * (length l.prefixes - l.prefix-index) ≤ length l.text;
    }
