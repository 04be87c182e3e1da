-- what was read, before what is left to read, is what is read of all; and there is room for that
use Rattle.std.proofs.Common.{◌≡◌, ◌≤◌, ◌+◌, ◌*◌, ◌++◌, length}
use Rattle.bgp_values.specs.declared.width.Width.TheVariants.{Two, Four}
use Rattle.bgp_codec.specs.AsNumbers.{numbers_of}
use Rattle.smallvec.specs.SmallVec.{small_vec_len}
use Rattle.bgp_codec.proofs.path.read_numbers.Given as goal

abbrev pub invariant-two : goal.invariant-two
invariant-two l = record {
  read : l.numbers.items ++ numbers_of Two l.left ≡ numbers_of Two l.octets;
  room : small_vec_len l.numbers * 2 + length l.left ≤ l.numbers.capacity * 2 + 1;
}

abbrev pub decreases-two : goal.decreases-two
decreases-two l = length l.left

abbrev pub invariant-four : goal.invariant-four
invariant-four l = record {
  read : l.numbers.items ++ numbers_of Four l.left ≡ numbers_of Four l.octets;
  room : small_vec_len l.numbers * 4 + length l.left ≤ l.numbers.capacity * 4 + 3;
}

abbrev pub decreases-four : goal.decreases-four
decreases-four l = length l.left
