use Rattle.std.proofs.Common.{arith}
use Rattle.net_text.proofs.DecimalLemmas.{without_last}
use Rattle.net_text.proofs.texts.write_octet.Goals as goal

pub returns-clause-text : goal.returns-clause-text
returns-clause-text c = without_last c.args.text.now _ _ c.args.at _ 46 (omega (arith, c.requires)) c.write_dotted.ensures.end c.write_dotted.ensures.text
