-- what was put, before what is left, is what all are written as, and there is room for what is left
use Rattle.std.proofs.Common.{◌≡◌, ◌++◌, ◌+◌, ◌≤◌, length, drop, vec_len, vec_capacity}
use Rattle.std.specs.List.{flat_map, AllByRecursion}
use Rattle.bgp_codec.specs.Opens.{cap_octets, CapFits}
use Rattle.bgp_codec.proofs.open.put_caps.Given as goal

abbrev pub invariant-loop-cap : goal.invariant-loop-cap
invariant-loop-cap l =
    record {
      items : l.out.items ++ flat_map cap_octets (drop l.cap-index l.caps) ≡ l.fn.out.items ++ flat_map cap_octets l.caps;
      room : vec_len l.out + length (flat_map cap_octets (drop l.cap-index l.caps)) ≤ vec_capacity l.out;
      fit : AllByRecursion CapFits (drop l.cap-index l.caps);
      capacity : vec_capacity l.fn.out ≤ vec_capacity l.out;
    }
