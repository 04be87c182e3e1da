-- all fit exactly where those that are left do
use Rattle.std.proofs.Common.{drop}
use Rattle.std.specs.Prelude.{◌↔◌}
use Rattle.std.specs.List.{AllByRecursion}
use Rattle.bgp_codec.specs.Updates.{SegmentFits}
use Rattle.bgp_codec.proofs.path.path_fits.Given as goal

abbrev pub invariant-loop-segment : goal.invariant-loop-segment
invariant-loop-segment l = AllByRecursion (SegmentFits l.width) l.path ↔ AllByRecursion (SegmentFits l.width) (drop l.segment-index l.path)
