use Rattle.rib_tables.proofs.LastLemmas.{last_is_last_mention}
use Rattle.rib_tables.proofs.laws.what_follows_is_the_last_mention.Goals as goal

pub returns : goal.returns
returns c = last_is_last_mention
