use Rattle.std.proofs.Common.{arith}
use Rattle.net_text.proofs.DecimalLemmas.{two_behind}
use Rattle.net_text.proofs.decimals.write_below_2560000.Goals as goal

pub returns-clause-text : goal.returns-clause-text
returns-clause-text c = two_behind c.args.number _ _ _ _ (omega arith) (omega arith) (omega arith) c.write_below_25600-at.ensures.text c.write_last_two.ensures.text
