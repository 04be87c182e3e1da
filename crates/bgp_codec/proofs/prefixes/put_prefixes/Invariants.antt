-- what was put, before what is left, is what all are written as, and there is room for what is left
use Rattle.std.proofs.Common.{◌≡◌, ◌++◌, ◌+◌, ◌≤◌, length, drop, vec_len, vec_capacity}
use Rattle.std.specs.List.{flat_map}
use Rattle.bgp_codec.specs.Updates.{prefix_octets}
use Rattle.bgp_codec.proofs.prefixes.put_prefixes.Given as goal

abbrev pub invariant-loop-prefix : goal.invariant-loop-prefix
invariant-loop-prefix l =
    record {
      items : l.out.items ++ flat_map prefix_octets (drop l.prefix-index l.prefixes) ≡ l.fn.out.items ++ flat_map prefix_octets l.prefixes;
      room : vec_len l.out + length (flat_map prefix_octets (drop l.prefix-index l.prefixes)) ≤ vec_capacity l.out;
      capacity : vec_capacity l.fn.out ≤ vec_capacity l.out;
    }
