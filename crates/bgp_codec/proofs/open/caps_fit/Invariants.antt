-- all fit exactly where those that are left do
use Rattle.std.proofs.Common.{drop}
use Rattle.std.specs.Prelude.{◌↔◌}
use Rattle.std.specs.List.{AllByRecursion}
use Rattle.bgp_codec.specs.Opens.{CapFits}
use Rattle.bgp_codec.proofs.open.caps_fit.Given as goal

abbrev pub invariant-loop-cap : goal.invariant-loop-cap
invariant-loop-cap l = AllByRecursion CapFits l.caps ↔ AllByRecursion CapFits (drop l.cap-index l.caps)
