-- what was put, before what is left, is what all are written as, and there is room for what is left
use Rattle.std.proofs.Common.{◌≡◌, ◌++◌, ◌+◌, ◌≤◌, length, drop, vec_len, vec_capacity}
use Rattle.std.specs.List.{flat_map, AllByRecursion}
use Rattle.bgp_codec.specs.Opens.{param_octets, ParamFits}
use Rattle.bgp_codec.proofs.open.put_params.Given as goal

abbrev pub invariant-loop-caps : goal.invariant-loop-caps
invariant-loop-caps l =
    record {
      items : l.out.items ++ flat_map param_octets (drop l.caps-index l.params) ≡ l.fn.out.items ++ flat_map param_octets l.params;
      room : vec_len l.out + length (flat_map param_octets (drop l.caps-index l.params)) ≤ vec_capacity l.out;
      fit : AllByRecursion ParamFits (drop l.caps-index l.params);
      capacity : vec_capacity l.fn.out ≤ vec_capacity l.out;
    }
