-- all rise exactly where those that are left do
use Rattle.std.proofs.Common.{length}
use Rattle.std.specs.Prelude.{◌↔◌}
use Rattle.bgp_codec.specs.Updates.{IsRising}
use Rattle.bgp_codec.proofs.attr_fitting.is_rising.Given as goal

abbrev pub invariant-raws : goal.invariant-raws
invariant-raws l = IsRising l.fn.raws ↔ IsRising l.left

abbrev pub decreases-raws : goal.decreases-raws
decreases-raws l = length l.left
