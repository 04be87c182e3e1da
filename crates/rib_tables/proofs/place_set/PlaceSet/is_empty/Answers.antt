use Rattle.std.proofs.Common.{get_or, rules}
use Rattle.std.specs.Int.RustNames.{bit_or}
use Rattle.std.proofs.lemmas.Bool.{eqb-true}
use Rattle.rib_tables.proofs.PlaceLemmas.{has-no_bits}
use Rattle.rib_tables.proofs.place_set.PlaceSet.is_empty.Goals as goal

pub returns : goal.returns
returns c = λ none.
    let ws = c.args.self.now.words in
    has-no_bits ws (search rules) (eqb-true (bit_or (bit_or (bit_or (get_or ws 0 0) (get_or ws 1 0)) (get_or ws 2 0)) (get_or ws 3 0)) 0 none)
