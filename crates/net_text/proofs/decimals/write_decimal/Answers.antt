use Rattle.std.proofs.Common.{◌/◌, take, arith}
use Rattle.net_text.proofs.DecimalLemmas.{two_behind}
use Rattle.net_text.proofs.decimals.write_decimal.Goals as goal

pub returns-clause-text : goal.returns-clause-text
returns-clause-text c =
    let n = c.args.number in
    let front = take c.args.at c.args.text.now in
    let four = two_behind (n / 100) (n / 10000) front _ _ (omega arith) (omega arith) (omega arith) c.write_below_2560000-at.ensures.text c.write_last_two-at.ensures.text in
    two_behind n (n / 100) front _ _ (omega arith) (omega arith) (omega arith) four c.write_last_two.ensures.text
