use Rattle.text_engines.proofs.DigitLemmas.{begun}
use Rattle.text_engines.proofs.digits.Digits.new.Goals as goal

pub returns : goal.returns
returns c = begun c.new.result.items c.new.ensures.items
