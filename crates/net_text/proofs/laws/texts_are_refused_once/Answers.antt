use Rattle.net_text.proofs.SpeltLemmas.{one_refusal}
use Rattle.net_text.proofs.laws.texts_are_refused_once.Goals as goal

pub returns : goal.returns
returns c = one_refusal
