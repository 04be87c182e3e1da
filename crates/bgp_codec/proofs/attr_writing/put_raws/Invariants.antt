-- what was put, before what is left, is what all are written as, and there is room for what is left
use Rattle.std.proofs.Common.{◌≡◌, ◌++◌, ◌+◌, ◌^◌, ◌<◌, ◌≤◌, length, drop, filter, vec_len, vec_capacity}
use Rattle.std.specs.List.{flat_map, AllByRecursion}
use Rattle.bgp_codec.specs.Updates.{raw_octets, stands, RawFits}
use Rattle.bgp_codec.proofs.attr_writing.put_raws.Given as goal

abbrev pub invariant-loop-raw : goal.invariant-loop-raw
invariant-loop-raw l =
    record {
      items : l.out.items ++ flat_map raw_octets (filter (stands l.before) (drop l.raw-index l.raws)) ≡ l.fn.out.items ++ flat_map raw_octets (filter (stands l.before) l.raws);
      room : vec_len l.out + length (flat_map raw_octets (filter (stands l.before) (drop l.raw-index l.raws))) ≤ vec_capacity l.out;
      size : length (flat_map raw_octets (filter (stands l.before) (drop l.raw-index l.raws))) < 2 ^ 16;
      fit : AllByRecursion RawFits (drop l.raw-index l.raws);
      capacity : vec_capacity l.fn.out ≤ vec_capacity l.out;
    }
