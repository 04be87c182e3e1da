use Rattle.std.proofs.Common.{rules}
use Rattle.rib_tables.proofs.PlaceLemmas.{has-out_here, has-out_other}
use Rattle.rib_tables.proofs.place_set.PlaceSet.take_out.Goals as goal

pub returns-clause-here : goal.returns-clause-here
returns-clause-here c = has-out_here c.args.self.now.words c.args.place (search rules) c.requires

pub returns-clause-others : goal.returns-clause-others
returns-clause-others c = has-out_other c.args.self.now.words c.args.place (search rules) c.requires
