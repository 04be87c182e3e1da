-- A prefix is a list of at most 32 bits, the first of an address (RFC 4271 section 4.3).
use Rattle.std.specs.Prelude.{ℕ, zero, suc, ◌-◌, ◌*◌, ◌/◌, ◌%◌, ◌^◌, ◌==◌, ◌&&◌, ◌≡◌, ◌≤◌, ◌<◌, Bool, List, [], ◌∷◌, take}
use mathlib.Core.List.{IsPrefix}

-- the n low bits of a number, the most significant first
abbrev pub low_bits : ℕ → ℕ → List Bool
low_bits zero number = []
low_bits (suc n) number = (number / 2 ^ n % 2 == 1) ∷ low_bits n number

-- the 32 bits of an address
unfoldable pub address_bits : ℕ → List Bool
address_bits addr = low_bits 32 addr

-- a prefix as it is kept: an address and how many of its bits count
pub record PrefixView : Type 0 where
  pub addr : ℕ
  pub len : ℕ

-- the bits of a prefix
abbrev pub bits : PrefixView → List Bool
bits p = take p.len (address_bits p.addr)

-- a prefix in its one form: the bits behind its length are zero
pub record IsCanonical (p : PrefixView) : Type 0 where
  pub fits : p.addr < 2 ^ 32
  pub short : p.len ≤ 32
  pub clear : p.addr % 2 ^ (32 - p.len) ≡ 0

-- an address with all but its first bits cleared
abbrev pub masked : ℕ → ℕ → ℕ
masked addr len = addr / 2 ^ (32 - len) * 2 ^ (32 - len)

-- the second begins with the bits of the first
abbrev pub Covers : PrefixView → PrefixView → Type 0
Covers p q = IsPrefix (bits p) (bits q)

-- one and the same
abbrev pub is_prefix : PrefixView → PrefixView → Bool
is_prefix p q = (p.addr == q.addr) && (p.len == q.len)

-- the word whose first bits alone are set
abbrev pub leading_mask : ℕ → ℕ
leading_mask len = 2 ^ 32 - 2 ^ (32 - len)
