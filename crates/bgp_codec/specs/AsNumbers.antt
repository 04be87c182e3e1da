-- Numbers in messages, and AS numbers of two octets or of four (RFC 4271 section 4.3, RFC 6793 section 4.1).
use Rattle.std.specs.Prelude.{ℕ, ◌≡◌, ◌+◌, ◌≤◌, List, [], ◌∷◌, length, slice_index}
use Rattle.std.specs.List.{flat_map, AllByRecursion}
use Rattle.std.specs.Int.{w16, w32, to_be_bytes, from_be_bytes}
use Rattle.bgp_values.specs.declared.width.Width.{Width}
use Rattle.bgp_values.specs.declared.width.Width.TheVariants.{Two, Four}
use Rattle.bgp_values.specs.Ranges.{greatest_asn}

-- the number of two octets, and of four, from a place on
abbrev pub number_at : List ℕ → ℕ → ℕ
number_at octets i = from_be_bytes w16 (slice_index octets i ∷ slice_index octets (i + 1) ∷ [])

abbrev pub address_at : List ℕ → ℕ → ℕ
address_at octets i = from_be_bytes w32 (slice_index octets i ∷ slice_index octets (i + 1) ∷ slice_index octets (i + 2) ∷ slice_index octets (i + 3) ∷ [])

-- how many octets an AS number has
abbrev pub asn_size : Width → ℕ
asn_size Two = 2
asn_size Four = 4

-- the octets of an AS number
abbrev pub asn_octets : Width → ℕ → List ℕ
asn_octets Two asn = to_be_bytes w16 asn
asn_octets Four asn = to_be_bytes w32 asn

-- the AS number in front
abbrev pub asn_at : Width → List ℕ → ℕ
asn_at Two octets = number_at octets 0
asn_at Four octets = address_at octets 0

-- an AS number that so many octets hold
abbrev pub AsnFits : Width → ℕ → Type 0
AsnFits width asn = asn ≤ greatest_asn width

-- the AS numbers that octets consist of
abbrev pub numbers_of : Width → List ℕ → List ℕ
numbers_of Two [] = []
numbers_of Two (a ∷ []) = []
numbers_of Two (a ∷ b ∷ rest) = from_be_bytes w16 (a ∷ b ∷ []) ∷ numbers_of Two rest
numbers_of Four [] = []
numbers_of Four (a ∷ []) = []
numbers_of Four (a ∷ b ∷ []) = []
numbers_of Four (a ∷ b ∷ c ∷ []) = []
numbers_of Four (a ∷ b ∷ c ∷ d ∷ rest) = from_be_bytes w32 (a ∷ b ∷ c ∷ d ∷ []) ∷ numbers_of Four rest

-- the octets are those of so many AS numbers
pub record AreNumbers (width : Width) (count : ℕ) (octets : List ℕ) : Type 0 where
  pub size : length (numbers_of width octets) ≡ count
  pub whole : flat_map (asn_octets width) (numbers_of width octets) ≡ octets
  pub small : AllByRecursion (AsnFits width) (numbers_of width octets)
