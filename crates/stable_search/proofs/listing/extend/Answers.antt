use Rattle.std.proofs.Common.{arith, refl, inl}
use Rattle.stable_search.proofs.listing.extend.Goals as goal

pub returns-clause-extended : goal.returns-clause-extended
returns-clause-extended c = record { router = refl; is_origin = refl; policy = refl; is_open = refl; adds = c.in_ok-add_each.ensures; few = omega arith }

pub returns-then-len-clause-refused : goal.returns-then-len-clause-refused
returns-then-len-clause-refused c = inl (refl, record { values = c.add_each.new.values.items; many = omega arith; adds = c.in_ok-add_each.ensures })
