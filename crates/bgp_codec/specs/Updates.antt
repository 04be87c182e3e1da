-- UPDATE: its parts, how they are spelt, and the one spelling that is written (RFC 4271 sections 4.3 and 5).
use Rattle.std.specs.Prelude.{◌≡◌, ◌≢◌, ℕ, ◌+◌, ◌^◌, ◌/◌, ◌≤◌, ◌<◌, nat_le, ◌==◌, not, is_some, Bool, true, false, List, [], ◌∷◌, ◌++◌, length, take, filter, Option, Some, None, IfSome, if◌then◌else◌, IsPermutation}
use Rattle.std.specs.Option.{option_map}
use Rattle.std.specs.List.{flat_map, AllByRecursion}
use Rattle.std.specs.Int.{w16, w32, to_be_bytes}
use Rattle.prefix_lanes.specs.Bits.{PrefixView, IsCanonical, low_bits, bits}
use Rattle.bgp_codec.specs.declared.path.Segment.{Segment}
use Rattle.bgp_codec.specs.declared.path.SegmentKind.{SegmentKind}
use Rattle.bgp_codec.specs.declared.path.SegmentKind.TheVariants.{AsSet, AsSequence}
use Rattle.bgp_codec.specs.declared.attributes.Aggregator.{Aggregator}
use Rattle.bgp_codec.specs.declared.attributes.Attrs.{Attrs}
use Rattle.bgp_codec.specs.declared.attributes.Raw.{Raw}
use Rattle.bgp_codec.specs.declared.update.Update.{Update}
use Rattle.bgp_values.specs.declared.width.Width.{Width}
use Rattle.bgp_codec.specs.declared.rule.Rule.{Rule}
use Rattle.bgp_codec.specs.AsNumbers.{asn_octets, AsnFits}
use Rattle.bgp_codec.specs.Opens.{short_string}
use Rattle.bgp_values.specs.Ranges.{is_unicast}
use Rattle.bgp_codec.specs.AttrTable.{high_flags, is_known, flags_of, partial_flag}
use Rattle.bgp_values.specs.declared.attributes.TheConstants.{AS_SET, AS_SEQUENCE, EXTENDED, ORIGIN, AS_PATH, NEXT_HOP, MULTI_EXIT_DISC, LOCAL_PREF, ATOMIC_AGGREGATE, AGGREGATOR, TRANSITIVE, OPTIONAL, INCOMPLETE}

-- two octets of length, and that many octets
abbrev pub long_string : List ℕ → List ℕ
long_string octets = to_be_bytes w16 (length octets) ++ octets

-- the octets spell the items of a list, one after the other
abbrev pub SpellsEach : {A : Type 0} → (List ℕ → A → Type 0) → List ℕ → List A → Type 0
SpellsEach spells octets [] = octets ≡ []
SpellsEach spells octets (x ∷ xs) = (front : List ℕ) × (rest : List ℕ) × spells front x × SpellsEach spells rest xs × (octets ≡ front ++ rest)

-- the least number of octets that hold so many bits
abbrev pub octet_count : ℕ → ℕ
octet_count count = (count + 7) / 8

-- the bits of octets, the most significant of each first
abbrev pub octet_bits : List ℕ → List Bool
octet_bits octets = flat_map (low_bits 8) octets

-- section 4.3: the number of bits, then the least number of octets that hold them; the bits behind them are free
pub record SpellsPrefix (octets : List ℕ) (p : PrefixView) : Type 0 where
  pub body : List ℕ
  pub canonical : IsCanonical p
  pub size : length body ≡ octet_count p.len
  pub same : bits p ≡ take p.len (octet_bits body)
  pub whole : octets ≡ p.len ∷ body

abbrev pub segment_code : SegmentKind → ℕ
segment_code AsSet = AS_SET
segment_code AsSequence = AS_SEQUENCE

-- a segment of a path: its type, the count of its numbers, the numbers, of two octets or of four
abbrev pub segment_octets : Width → Segment → List ℕ
segment_octets width s = segment_code s.kind ∷ length s.numbers ∷ flat_map (asn_octets width) s.numbers

abbrev pub path_octets : Width → List Segment → List ℕ
path_octets width segments = flat_map (segment_octets width) segments

abbrev pub aggregator_octets : Width → Aggregator → List ℕ
aggregator_octets width g = asn_octets width g.asn ++ to_be_bytes w32 g.addr

abbrev pub raw_of : ℕ → ℕ → List ℕ → Raw
raw_of flags code value = record { flags = flags; code = code; value = value }

abbrev pub given : ℕ → ℕ → Option (List ℕ) → List Raw
given flags code None = []
given flags code (Some value) = raw_of flags code value ∷ []

abbrev pub aggregator_raw : Width → Option Aggregator → List Raw
aggregator_raw width None = []
aggregator_raw width (Some g) = raw_of (flags_of AGGREGATOR + partial_flag g.partial) AGGREGATOR (aggregator_octets width g) ∷ []

-- an unknown code below all known ones, or above them
abbrev pub stands : Bool → Raw → Bool
stands true r = r.code == 0
stands false r = not (r.code == 0)

-- the attributes that are there, in rising order of code: each with its three high flags and its value
abbrev pub attributes : Width → Attrs → List Raw
attributes width a =
    filter (stands true) a.other
    ++ (given TRANSITIVE ORIGIN (option_map (λ o. o ∷ []) a.origin)
    ++ (given TRANSITIVE AS_PATH (option_map (path_octets width) a.path)
    ++ (given TRANSITIVE NEXT_HOP (option_map (to_be_bytes w32) a.next_hop)
    ++ (given OPTIONAL MULTI_EXIT_DISC (option_map (to_be_bytes w32) a.med)
    ++ (given TRANSITIVE LOCAL_PREF (option_map (to_be_bytes w32) a.local_pref)
    ++ (given TRANSITIVE ATOMIC_AGGREGATE (if a.atomic then Some [] else None)
    ++ (aggregator_raw width a.aggregator
    ++ filter (stands false) a.other)))))))

-- flags, code, length in one octet or two, value
abbrev pub attr_octets : Bool → ℕ → Raw → List ℕ
attr_octets true low r = (r.flags + EXTENDED + low) ∷ r.code ∷ long_string r.value
attr_octets false low r = (r.flags + low) ∷ r.code ∷ short_string r.value

abbrev pub size_limit : Bool → ℕ
size_limit true = 2 ^ 16
size_limit false = 256

-- section 4.3: an attribute, whose four low flags and form of length are free
pub record SpellsAttr (octets : List ℕ) (r : Raw) : Type 0 where
  pub extended : Bool
  pub low : ℕ
  pub small : low < 16
  pub size : length r.value < size_limit extended
  pub whole : octets ≡ attr_octets extended low r

-- the attributes, in any order
pub record SpellsAttrs (width : Width) (octets : List ℕ) (a : Attrs) : Type 0 where
  pub raws : List Raw
  pub order : IsPermutation raws (attributes width a)
  pub each : SpellsEach SpellsAttr octets raws

abbrev pub SegmentFits : Width → Segment → Type 0
SegmentFits width s = (1 ≤ length s.numbers) × ((length s.numbers ≤ 255) × AllByRecursion (AsnFits width) s.numbers)

-- an attribute that the table does not know is optional
abbrev pub RawFits : Raw → Type 0
RawFits r = (is_known r.code ≡ false) × ((OPTIONAL ≤ r.flags) × (high_flags r.flags ≡ r.flags))

-- in rising order of code
abbrev pub IsRising : List Raw → Type 0
IsRising [] = Unit {0}
IsRising (r ∷ rs) = AllByRecursion (λ s. r.code < s.code) rs × IsRising rs

-- the values that attributes may have
pub record AttrsFit (width : Width) (a : Attrs) : Type 0 where
  pub origin : IfSome a.origin (λ o. o ≤ INCOMPLETE)
  pub path : IfSome a.path (AllByRecursion (SegmentFits width))
  pub next_hop : IfSome a.next_hop (λ n. (n < 2 ^ 32) × (is_unicast n ≡ true))
  pub med : IfSome a.med (λ n. n < 2 ^ 32)
  pub local_pref : IfSome a.local_pref (λ n. n < 2 ^ 32)
  pub aggregator : IfSome a.aggregator (λ g. AsnFits width g.asn × (g.addr < 2 ^ 32))
  pub other : AllByRecursion RawFits a.other
  pub rising : IsRising a.other

-- the first of ORIGIN, AS_PATH and NEXT_HOP that the attributes lack
abbrev pub missing : Attrs → Option ℕ
missing a = if not (is_some a.origin) then Some ORIGIN else if not (is_some a.path) then Some AS_PATH else if not (is_some a.next_hop) then Some NEXT_HOP else None

-- the numbers of a path, in whatever segments
abbrev pub path_numbers : Option (List Segment) → List ℕ
path_numbers None = []
path_numbers (Some segments) = flat_map (λ s. s.numbers) segments

abbrev pub begins_with : ℕ → List ℕ → Bool
begins_with asn [] = false
begins_with asn (n ∷ ns) = n == asn

-- the first number of the path is the peer's, where a peer is named
abbrev pub is_from : Option ℕ → Attrs → Bool
is_from None a = true
is_from (Some asn) a = begins_with asn (path_numbers a.path)

-- what has to be there where prefixes are announced
pub record IsAnnounced (rule_peer : Option ℕ) (a : Attrs) : Type 0 where
  pub mandatory : missing a ≡ None
  pub peer : is_from rule_peer a ≡ true

-- these octets are an UPDATE's body, under the rule
pub record SpellsUpdate (rule : Rule) (body : List ℕ) (u : Update) : Type 0 where
  pub withdrawn : List ℕ
  pub attrs : List ℕ
  pub nlri : List ℕ
  pub withdrawn_are : SpellsEach SpellsPrefix withdrawn u.withdrawn
  pub attrs_are : SpellsAttrs rule.width attrs u.attrs
  pub attrs_fit : AttrsFit rule.width u.attrs
  pub nlri_are : SpellsEach SpellsPrefix nlri u.nlri
  pub announced : u.nlri ≢ [] → IsAnnounced rule.peer u.attrs
  pub withdrawn_size : length withdrawn < 2 ^ 16
  pub attrs_size : length attrs < 2 ^ 16
  pub whole : body ≡ long_string withdrawn ++ (long_string attrs ++ nlri)

-- ---- the one spelling that is written

-- the bits behind a prefix are zero
abbrev pub prefix_octets : PrefixView → List ℕ
prefix_octets p = p.len ∷ take (octet_count p.len) (to_be_bytes w32 p.addr)

-- Extended Length for 256 octets or more, no low flag
abbrev pub raw_octets : Raw → List ℕ
raw_octets r = attr_octets (nat_le 256 (length r.value)) 0 r

abbrev pub attrs_octets : Width → Attrs → List ℕ
attrs_octets width a = flat_map raw_octets (attributes width a)

abbrev pub update_octets : Width → Update → List ℕ
update_octets width u = long_string (flat_map prefix_octets u.withdrawn) ++ (long_string (attrs_octets width u.attrs) ++ flat_map prefix_octets u.nlri)

-- each field is one that may be read with nobody named, and each part fits its own length field
pub record UpdateFits (width : Width) (u : Update) : Type 0 where
  pub withdrawn : AllByRecursion IsCanonical u.withdrawn
  pub attrs : AttrsFit width u.attrs
  pub nlri : AllByRecursion IsCanonical u.nlri
  pub mandatory : u.nlri ≢ [] → missing u.attrs ≡ None
  pub withdrawn_size : length (flat_map prefix_octets u.withdrawn) < 2 ^ 16
  pub attrs_size : length (attrs_octets width u.attrs) < 2 ^ 16
