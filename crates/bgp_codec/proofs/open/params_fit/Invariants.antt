-- all fit exactly where those that are left do
use Rattle.std.proofs.Common.{drop}
use Rattle.std.specs.Prelude.{◌↔◌}
use Rattle.std.specs.List.{AllByRecursion}
use Rattle.bgp_codec.specs.Opens.{ParamFits}
use Rattle.bgp_codec.proofs.open.params_fit.Given as goal

abbrev pub invariant-loop-caps : goal.invariant-loop-caps
invariant-loop-caps l = AllByRecursion ParamFits l.params ↔ AllByRecursion ParamFits (drop l.caps-index l.params)
