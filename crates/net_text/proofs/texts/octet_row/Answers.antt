use Rattle.std.proofs.Common.{refl, arith}
use Rattle.net_text.proofs.DecimalLemmas.{digits_in_row}
use Rattle.net_text.proofs.texts.octet_row.Goals as goal

pub returns : goal.returns
returns c = rw c.four_at.ensures (digits_in_row _ c.args.octet (omega arith) refl)
