-- what was written, before what is left, is what all are printed as, and there is room for the others
use Rattle.std.proofs.Common.{◌≡◌, ◌++◌, ◌∷◌, ◌+◌, ◌*◌, ◌≤◌, length, take, map, decimal}
use Rattle.std.specs.List.{flat_map, join_with_byte}
use Rattle.net_text.proofs.update_lines.write_numbers.Given as goal

abbrev pub invariant-numbers : goal.invariant-numbers
invariant-numbers l =
    record {
      text : take l.at l.text ++ flat_map (λ n. l.mark ∷ decimal n) l.left ≡ take l.start l.fn.text ++ join_with_byte l.mark (map decimal l.fn.numbers);
      room : l.at + 13 * length l.left ≤ length l.text;
      end : l.at + 12 * length l.left ≤ l.start + 12 * length l.fn.numbers;
    }

abbrev pub decreases-numbers : goal.decreases-numbers
decreases-numbers l = length l.left
