use Rattle.std.proofs.lemmas.Bool.{eqb-true}
use lib.Bits.{bit_and}
use Rattle.stable_search.proofs.PartLemmas.{in_all}
use Rattle.stable_search.proofs.parting.are_in.Goals as goal

pub returns : goal.returns
returns c = λ t value h. in_all c.args.values c.args.all value (eqb-true (bit_and c.args.values c.args.all) c.args.values t) h
