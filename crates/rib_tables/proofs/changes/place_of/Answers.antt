use Rattle.rib_tables.proofs.ChangeLemmas.{place_from}
use Rattle.rib_tables.proofs.changes.place_of.Goals as goal

pub returns : goal.returns
returns c = place_from c.args.prefix.now c.args.keys.now.keys c.get_index_of.result c.get_index_of.ensures.index c.get_index_of.ensures.found
