-- all fit exactly where those that are left do
use Rattle.std.proofs.Common.{drop}
use Rattle.std.specs.Prelude.{◌↔◌}
use Rattle.std.specs.List.{AllByRecursion}
use Rattle.bgp_codec.specs.AsNumbers.{AsnFits}
use Rattle.bgp_codec.proofs.path.numbers_fit.Given as goal

abbrev pub invariant-loop-number : goal.invariant-loop-number
invariant-loop-number l = AllByRecursion (AsnFits l.width) l.numbers ↔ AllByRecursion (AsnFits l.width) (drop l.number-index l.numbers)
