-- The octets of the two shapes in which a path is told, piece by piece (RFC 4271 section 4.3).
-- q is a prefix.
use Rattle.std.specs.Prelude.{ℕ, ◌≡◌, ◌+◌, ◌*◌, ◌^◌, ◌<◌, ◌≤◌, true, List, [], ◌∷◌, ◌++◌, length, take, get_or}
use Rattle.std.specs.Int.{w16, w32, to_be_bytes}
use Rattle.bgp_values.specs.Ranges.{is_unicast}
use Rattle.bgp_values.specs.declared.width.Width.{Width}
use Rattle.prefix_lanes.specs.Bits.{PrefixView}
use Rattle.bgp_codec.specs.AsNumbers.{asn_size}
use Rattle.bgp_codec.specs.Updates.{octet_count}
use Rattle.router_side.specs.declared.told_path.TheConstants.{MOST_NUMBERS}

-- sixteen octets of ones, before what follows
abbrev pub marked : List ℕ → List ℕ
marked rest = 255 ∷ 255 ∷ 255 ∷ 255 ∷ 255 ∷ 255 ∷ 255 ∷ 255 ∷ 255 ∷ 255 ∷ 255 ∷ 255 ∷ 255 ∷ 255 ∷ 255 ∷ 255 ∷ rest

-- the two octets of a number, before what follows
abbrev pub field : ℕ → List ℕ → List ℕ
field number rest = get_or (to_be_bytes w16 number) 0 0 ∷ get_or (to_be_bytes w16 number) 1 0 ∷ rest

-- a withdrawal up to the octets of its prefix, of which there are `count`
abbrev pub withdrawal_front : ℕ → ℕ → List ℕ
withdrawal_front len count = marked (field (24 + count) (2 ∷ field (1 + count) (len ∷ [])))

-- an announcement of `len` octets from its Marker on, up to the length of its AS_PATH, `path_len`, which comes next
abbrev pub announcement_start : ℕ → ℕ → List ℕ
announcement_start len path_len = marked (field len (2 ∷ 0 ∷ 0 ∷ field (14 + path_len) (64 ∷ 1 ∷ 1 ∷ 0 ∷ 64 ∷ 2 ∷ [])))

-- an announcement up to the numbers of its path, which have `size` octets; those of its prefix are `count`
abbrev pub announcement_front : ℕ → ℕ → ℕ → List ℕ
announcement_front number_count size count =
    marked (field (40 + size + count) (2 ∷ 0 ∷ 0
    ∷ field (16 + size) (64 ∷ 1 ∷ 1 ∷ 0 ∷ 64 ∷ 2 ∷ (2 + size) ∷ 2 ∷ number_count ∷ [])))

-- an announcement behind the numbers of its path, up to the octets of its prefix
abbrev pub announcement_hop : ℕ → ℕ → List ℕ
announcement_hop id len = 64 ∷ 3 ∷ 4 ∷ get_or (to_be_bytes w32 id) 0 0 ∷ get_or (to_be_bytes w32 id) 1 0 ∷ get_or (to_be_bytes w32 id) 2 0 ∷ get_or (to_be_bytes w32 id) 3 0 ∷ len ∷ []

-- the octets of a prefix's address
abbrev pub address : PrefixView → List ℕ
address q = take (octet_count q.len) (to_be_bytes w32 q.addr)

-- these octets withdraw the prefix
abbrev pub IsWithdrawal : List ℕ → PrefixView → Type 0
IsWithdrawal octets q = octets ≡ withdrawal_front q.len (octet_count q.len) ++ (address q ++ 0 ∷ 0 ∷ [])

-- these octets announce a path for the prefix, the octets of whose numbers are given
pub record IsAnnouncement (width : Width) (octets : List ℕ) (id : ℕ) (q : PrefixView) (numbers : List ℕ) : Type 0 where
  pub count : ℕ
  pub some : 1 ≤ count
  pub few : count ≤ MOST_NUMBERS
  pub size : length numbers ≡ asn_size width * count
  pub fits : id < 2 ^ 32
  pub unicast : is_unicast id ≡ true
  pub whole : octets ≡ announcement_front count (asn_size width * count) (octet_count q.len) ++ (numbers ++ (announcement_hop id q.len ++ address q))
