-- Numbers rise.
use Rattle.run_cuts.proofs.OneCut.{cuts_are_one, inside_by_number}
use Rattle.run_cuts.proofs.laws.cuts_are_one.Goals as goal

pub returns : goal.returns
returns c = record { one = cuts_are_one c.laws_below.ensures; inside = inside_by_number c.laws_below.ensures }
