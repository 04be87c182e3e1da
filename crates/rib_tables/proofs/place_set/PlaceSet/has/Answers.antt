use Rattle.rib_tables.proofs.PlaceLemmas.{has-tested}
use Rattle.rib_tables.proofs.place_set.PlaceSet.has.Goals as goal

pub returns : goal.returns
returns c = has-tested c.args.self.now.words c.args.place
