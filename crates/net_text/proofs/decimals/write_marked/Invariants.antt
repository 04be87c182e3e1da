-- what was written, before what is left, is what all are printed as, and there is room for the others; each took twelve octets at most
use Rattle.std.proofs.Common.{◌≡◌, ◌++◌, ◌∷◌, ◌+◌, ◌-◌, ◌*◌, ◌≤◌, length, take, drop, decimal}
use Rattle.std.specs.List.{flat_map}
use Rattle.net_text.proofs.decimals.write_marked.Given as goal

abbrev pub invariant-loop-number : goal.invariant-loop-number
invariant-loop-number l =
    record {
      text : take l.at l.text ++ flat_map (λ n. l.mark ∷ decimal n) (drop l.number-index l.numbers) ≡ take l.start l.fn.text ++ flat_map (λ n. l.mark ∷ decimal n) l.numbers;
      room : l.at + 13 * (length l.numbers - l.number-index) ≤ length l.text;
      end : l.at ≤ l.start + 12 * l.number-index;
    }
