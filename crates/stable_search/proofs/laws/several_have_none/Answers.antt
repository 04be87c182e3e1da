use Rattle.stable_search.proofs.AmongLemmas.{several_have_none}
use Rattle.stable_search.proofs.laws.several_have_none.Goals as goal

pub returns : goal.returns
returns c = several_have_none
