-- What an address and a length say of the list of bits.
use Rattle.std.specs.Prelude.{ℕ, ◌-◌, ◌^◌, ◌≡◌, ◌≤◌, ◌<◌, Bool, false, List, ◌++◌, length, take, replicate}
use Rattle.prefix_lanes.specs.Bits.{PrefixView, IsCanonical, bits, address_bits, masked}

-- a prefix has as many bits as it says, at most 32
abbrev pub HasItsLength : Type 0
HasItsLength = (p : PrefixView) → IsCanonical p → (length (bits p) ≡ p.len) × (length (bits p) ≤ 32)

-- two prefixes with the same bits are one
abbrev pub SameBitsSamePrefix : Type 0
SameBitsSamePrefix = (p q : PrefixView) → IsCanonical p → IsCanonical q → bits p ≡ bits q → p ≡ q

-- each list of at most 32 bits is a prefix
abbrev pub EachListIsAPrefix : Type 0
EachListIsAPrefix = (list : List Bool) → length list ≤ 32 → (p : PrefixView) × IsCanonical p × (bits p ≡ list)

-- the first bits of a masked address stay, the others are zero
abbrev pub MaskedBits : Type 0
MaskedBits = (addr len : ℕ) → addr < 2 ^ 32 → len ≤ 32 → address_bits (masked addr len) ≡ take len (address_bits addr) ++ replicate (32 - len) false

abbrev pub MaskedIsCanonical : Type 0
MaskedIsCanonical = (addr len : ℕ) → addr < 2 ^ 32 → len ≤ 32 → IsCanonical (record { addr = masked addr len; len = len })
