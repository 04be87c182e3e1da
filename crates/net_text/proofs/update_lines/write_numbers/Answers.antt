use Rattle.std.proofs.Common.{decimal, length, ap, arith}
use Rattle.net_text.proofs.PrintLemmas.{joined_front}
use Rattle.net_text.proofs.update_lines.write_numbers.Goals as goal

pub numbers-init : goal.numbers-init
numbers-init c =
    let count = ap length c.in-Some.ensures in
    record {
      text = joined_front decimal c.args.mark c.args.numbers c.in-Some.first c.next.new.self _ _ c.in-Some.ensures c.write_decimal-at.ensures.text;
      room = omega (arith, count, c.requires, c.write_decimal-at.ensures.end, c.write_decimal-at.auto.text);
      end = omega (arith, count, c.write_decimal-at.ensures.end);
    }
