-- The columns of a table that lanes read. Only private clauses cite them.
use Rattle.std.specs.Prelude.{ℕ, ◌≡◌, ◌==◌, Bool, List, map}
use Rattle.std.specs.Int.Bits.{bit_and}
use Rattle.std.specs.List.{All}
use Rattle.prefix_lanes.specs.Bits.{PrefixView, IsCanonical, leading_mask}

-- the address and the mask of each prefix
pub record AreColumns (places : List PrefixView) (addrs masks : List ℕ) : Type 0 where
  pub canonical : All IsCanonical places
  pub addrs_are : addrs ≡ map (λ p. p.addr) places
  pub masks_are : masks ≡ map (λ p. leading_mask p.len) places

-- the first prefix has the bits of the second at its beginning, or is shorter
abbrev pub is_alike : PrefixView → PrefixView → Bool
is_alike q p = bit_and q.addr (leading_mask p.len) == p.addr
