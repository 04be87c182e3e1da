-- The ranges of what a speaker says of itself in an OPEN (RFC 4271 section 4.2). Each stands twice: as a test that
-- computes, and as what it means.
use Rattle.std.specs.Prelude.{ℕ, ◌≡◌, ◌≤◌, ◌/◌, nat_le, ◌==◌, ◌||◌, ◌&&◌, Bool}
use mathlib.Core.Logic.{◌⊎◌}
use Rattle.bgp_values.specs.declared.ranges.TheConstants.{LEAST_HOLD, FIRST_UNICAST, LAST_UNICAST}
use Rattle.bgp_values.specs.declared.width.TheConstants.{GREATEST_OF_TWO, GREATEST_OF_FOUR}
use Rattle.bgp_values.specs.declared.width.Width.{Width}
use Rattle.bgp_values.specs.declared.width.Width.TheVariants.{Two, Four}

-- the greatest AS number that two octets hold, and four (RFC 4271 section 4.2, RFC 6793 section 4.1)
abbrev pub greatest_asn : Width → ℕ
greatest_asn Two = GREATEST_OF_TWO
greatest_asn Four = GREATEST_OF_FOUR

-- an AS number that a speaker may have (RFC 7607)
abbrev pub IsAsn : Width → ℕ → Type 0
IsAsn width asn = (1 ≤ asn) × (asn ≤ greatest_asn width)

abbrev pub is_asn : Width → ℕ → Bool
is_asn width asn = nat_le 1 asn && nat_le asn (greatest_asn width)

-- a hold time that an OPEN may propose, in seconds: 0, which is none, or the least or more
abbrev pub IsHoldTime : ℕ → Type 0
IsHoldTime hold = (hold ≡ 0) ⊎ (LEAST_HOLD ≤ hold)

abbrev pub is_hold_time : ℕ → Bool
is_hold_time hold = (hold == 0) || nat_le LEAST_HOLD hold

-- an address of one host, as an identifier and a next hop have to be: its first octet tells
abbrev pub first_octet : ℕ → ℕ
first_octet address = address / 16777216

abbrev pub IsUnicast : ℕ → Type 0
IsUnicast address = (FIRST_UNICAST ≤ first_octet address) × (first_octet address ≤ LAST_UNICAST)

abbrev pub is_unicast : ℕ → Bool
is_unicast address = nat_le FIRST_UNICAST (first_octet address) && nat_le (first_octet address) LAST_UNICAST
