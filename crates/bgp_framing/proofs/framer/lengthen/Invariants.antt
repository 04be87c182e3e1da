-- the octets that were there stay in front, in the same room
use Rattle.std.proofs.Common.{◌≡◌, ◌≤◌, ℕ, take, vec_len, vec_capacity}
use Rattle.bgp_framing.proofs.framer.lengthen.Given as goal

abbrev pub invariant-loop : goal.invariant-loop
invariant-loop l =
    record {
      items : (end : ℕ) → end ≤ vec_len l.fn.octets → take end l.octets.items ≡ take end l.fn.octets.items;
      len : vec_len l.octets ≡ l.counter;
      capacity : vec_capacity l.octets ≡ vec_capacity l.fn.octets;
    }
