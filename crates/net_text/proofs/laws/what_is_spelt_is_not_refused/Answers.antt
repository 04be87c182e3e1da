use Rattle.net_text.proofs.SpeltLemmas.{spelt_is_not_refused}
use Rattle.net_text.proofs.laws.what_is_spelt_is_not_refused.Goals as goal

pub returns : goal.returns
returns c = spelt_is_not_refused
