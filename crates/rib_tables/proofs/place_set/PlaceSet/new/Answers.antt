use Rattle.rib_tables.proofs.PlaceLemmas.{has-empty}
use Rattle.rib_tables.proofs.place_set.PlaceSet.new.Goals as goal

pub returns : goal.returns
returns c = has-empty
