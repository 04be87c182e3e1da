use Rattle.std.proofs.Common.{rules}
use Rattle.rib_tables.proofs.PlaceLemmas.{has-put_here, has-put_other}
use Rattle.rib_tables.proofs.place_set.PlaceSet.put.Goals as goal

pub returns-clause-here : goal.returns-clause-here
returns-clause-here c = has-put_here c.args.self.now.words c.args.place (search rules) c.requires

pub returns-clause-others : goal.returns-clause-others
returns-clause-others c = has-put_other c.args.self.now.words c.args.place (search rules) c.requires
