-- what was put, before what is left, is what all are written as, and there is room for what is left
use Rattle.std.proofs.Common.{◌≡◌, ◌++◌, ◌+◌, ◌≤◌, length, drop, vec_len, vec_capacity}
use Rattle.std.specs.List.{AllByRecursion}
use Rattle.bgp_codec.specs.Updates.{path_octets, SegmentFits}
use Rattle.bgp_codec.proofs.path.put_path.Given as goal

abbrev pub invariant-loop-segment : goal.invariant-loop-segment
invariant-loop-segment l =
    record {
      items : l.out.items ++ path_octets l.width (drop l.segment-index l.path) ≡ l.fn.out.items ++ path_octets l.width l.path;
      room : vec_len l.out + length (path_octets l.width (drop l.segment-index l.path)) ≤ vec_capacity l.out;
      fit : AllByRecursion (SegmentFits l.width) (drop l.segment-index l.path);
      capacity : vec_capacity l.fn.out ≤ vec_capacity l.out;
    }
