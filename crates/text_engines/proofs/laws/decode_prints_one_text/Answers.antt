use Rattle.text_engines.proofs.DecodeLemmas.{decode_one}
use Rattle.text_engines.proofs.laws.decode_prints_one_text.Goals as goal

pub returns : goal.returns
returns c = decode_one c.splits_once.ensures
