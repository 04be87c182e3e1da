use Rattle.std.proofs.Common.{◌≡◌, ◌+◌, ◌/◌, ◌%◌, slice_index_or, append_assoc, arith}
use Rattle.net_text.proofs.DecimalLemmas.{two_in_row}
use Rattle.net_text.proofs.decimals.write_last_two.Goals as goal

pub returns-clause-text : goal.returns-clause-text
returns-clause-text c =
    let n = c.args.number in
    let row = c.octet_row.result in
    let two = two_in_row row (100 + n % 100) (omega arith) (omega arith) c.octet_row.ensures in
    let tens : slice_index_or row 1 0 ≡ 48 + n / 10 % 10 = omega (arith, two.0) in
    let ones : slice_index_or row 2 0 ≡ 48 + n % 10 = omega (arith, two.1) in
    rw (c.write_mark.ensures.text, c.write_mark-at.ensures.text, tens, ones) (simp append_assoc)
