use Rattle.net_text.proofs.DeclaringLemmas.{networks_have_what_is_named}
use Rattle.net_text.proofs.laws.networks_have_what_is_named.Goals as goal

pub returns : goal.returns
returns c = networks_have_what_is_named
