-- all fit exactly where those that are left do
use Rattle.std.proofs.Common.{drop}
use Rattle.std.specs.Prelude.{◌↔◌}
use Rattle.std.specs.List.{AllByRecursion}
use Rattle.bgp_codec.specs.Updates.{RawFits}
use Rattle.bgp_codec.proofs.attr_fitting.raws_fit.Given as goal

abbrev pub invariant-loop-raw : goal.invariant-loop-raw
invariant-loop-raw l = AllByRecursion RawFits l.raws ↔ AllByRecursion RawFits (drop l.raw-index l.raws)
