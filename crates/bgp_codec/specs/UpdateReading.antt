-- What reading an UPDATE answers, from left to right: its parts, or its first fault (RFC 4271 section 6.3).
use Rattle.std.specs.Prelude.{ℕ, zero, suc, ◌+◌, ◌*◌, ◌/◌, ◌%◌, nat_lt, ◌==◌, ◌||◌, not, is_some, Bool, true, false, List, [], ◌∷◌, length, take, drop, slice_index, Option, Some, None, Result, Ok, Err, if◌then◌else◌}
use Rattle.std.specs.List.{list_any}
use Rattle.prefix_lanes.specs.Bits.{PrefixView, masked}
use Rattle.bgp_codec.specs.declared.fault.Fault.{Fault}
use Rattle.bgp_values.specs.declared.faults.TheConstants.{UPDATE_MESSAGE_ERROR, MALFORMED_ATTRIBUTE_LIST, UNRECOGNIZED_WELL_KNOWN_ATTRIBUTE, MISSING_WELL_KNOWN_ATTRIBUTE, ATTRIBUTE_FLAGS_ERROR, ATTRIBUTE_LENGTH_ERROR, INVALID_ORIGIN_ATTRIBUTE, INVALID_NEXT_HOP_ATTRIBUTE, INVALID_NETWORK_FIELD, MALFORMED_AS_PATH}
use Rattle.bgp_codec.specs.declared.path.Segment.{Segment}
use Rattle.bgp_codec.specs.declared.path.SegmentKind.{SegmentKind}
use Rattle.bgp_codec.specs.declared.path.SegmentKind.TheVariants.{AsSet, AsSequence}
use Rattle.bgp_codec.specs.declared.attributes.Aggregator.{Aggregator}
use Rattle.bgp_codec.specs.declared.attributes.Attrs.{Attrs}
use Rattle.bgp_codec.specs.declared.attributes.Raw.{Raw}
use Rattle.bgp_codec.specs.declared.update.Update.{Update}
use Rattle.bgp_values.specs.declared.width.Width.{Width}
use Rattle.bgp_codec.specs.declared.rule.Rule.{Rule}
use Rattle.bgp_codec.specs.AsNumbers.{number_at, address_at, asn_size, asn_at, numbers_of}
use Rattle.bgp_codec.specs.Header.{fault_of}
use Rattle.bgp_codec.specs.Reading.{◌>>=◌, Reader, all_of}
use Rattle.bgp_values.specs.Ranges.{is_unicast}
use Rattle.bgp_codec.specs.AttrTable.{high_flags, is_known, is_partial, flags_fit, size_fits}
use Rattle.bgp_values.specs.declared.attributes.TheConstants.{EXTENDED, ORIGIN, AS_PATH, NEXT_HOP, MULTI_EXIT_DISC, LOCAL_PREF, ATOMIC_AGGREGATE, AGGREGATOR, OPTIONAL, INCOMPLETE}
use Rattle.bgp_codec.specs.Updates.{octet_count, segment_code, raw_of, missing, is_from}

-- a fault of an UPDATE without data
abbrev pub update_fault : ℕ → Fault
update_fault sub = fault_of UPDATE_MESSAGE_ERROR sub []

-- a fault of an UPDATE with an attribute as its data
abbrev pub attr_fault : ℕ → List ℕ → Fault
attr_fault sub attr = fault_of UPDATE_MESSAGE_ERROR sub attr

-- the first bits of octets, of which at most four count
abbrev pub prefix_of : ℕ → List ℕ → PrefixView
prefix_of len octets = record { addr = masked (address_at octets 0) len; len = len }

-- the prefix in front: it has at most 32 bits, and the octets that hold them are inside
abbrev pub prefix_at : Reader PrefixView
prefix_at [] = Err (update_fault INVALID_NETWORK_FIELD)
prefix_at (len ∷ rest) =
    if nat_lt 32 len || nat_lt (length rest) (octet_count len) then Err (update_fault INVALID_NETWORK_FIELD)
    else Ok (prefix_of len (take (octet_count len) rest), drop (octet_count len) rest)

abbrev pub prefixes_reading : List ℕ → Result (List PrefixView) Fault
prefixes_reading octets = all_of prefix_at octets

-- the segment of this kind whose numbers have these octets
abbrev pub segment_with : Width → SegmentKind → List ℕ → Segment
segment_with width kind octets = record { kind = kind; numbers = numbers_of width octets }

abbrev pub segment_of : Width → ℕ → List ℕ → Segment
segment_of width code octets = segment_with width (if code == segment_code AsSet then AsSet else AsSequence) octets

-- the segment in front: AS_SET or AS_SEQUENCE, at least one number, and all numbers inside
abbrev pub segment_at : Width → Reader Segment
segment_at width [] = Err (update_fault MALFORMED_AS_PATH)
segment_at width (code ∷ []) = Err (update_fault MALFORMED_AS_PATH)
segment_at width (code ∷ count ∷ rest) =
    if not ((code == segment_code AsSet) || (code == segment_code AsSequence)) || ((count == 0) || nat_lt (length rest) (asn_size width * count)) then Err (update_fault MALFORMED_AS_PATH)
    else Ok (segment_of width code (take (asn_size width * count) rest), drop (asn_size width * count) rest)

abbrev pub path_reading : Width → List ℕ → Result (List Segment) Fault
path_reading width octets = all_of (segment_at width) octets

-- whether Extended Length is set
abbrev pub is_extended : ℕ → Bool
is_extended flags = flags / EXTENDED % 2 == 1

-- how many octets stand before an attribute's value, and how many the value has
abbrev pub head_size : List ℕ → ℕ
head_size octets = if is_extended (slice_index octets 0) then 4 else 3

abbrev pub value_size : List ℕ → ℕ
value_size octets = if is_extended (slice_index octets 0) then number_at octets 2 else slice_index octets 2

-- an attribute as it stands in front, its value, and what follows it
abbrev pub attr_at : List ℕ → Result (List ℕ × List ℕ × List ℕ) Fault
attr_at octets =
    let size = head_size octets + value_size octets in
    if nat_lt (length octets) size then Err (update_fault MALFORMED_ATTRIBUTE_LIST)
    else Ok (take size octets, drop (head_size octets) (take size octets), drop size octets)

-- no attribute
abbrev pub no_attrs : Attrs
no_attrs = record { origin = None; path = None; next_hop = None; med = None; local_pref = None; atomic = false; aggregator = None; other = [] }

abbrev pub with_origin : Attrs → ℕ → Attrs
with_origin a o = record a { origin = Some o }

abbrev pub with_path : Attrs → List Segment → Attrs
with_path a p = record a { path = Some p }

abbrev pub with_next_hop : Attrs → ℕ → Attrs
with_next_hop a n = record a { next_hop = Some n }

abbrev pub with_med : Attrs → ℕ → Attrs
with_med a n = record a { med = Some n }

abbrev pub with_local_pref : Attrs → ℕ → Attrs
with_local_pref a n = record a { local_pref = Some n }

abbrev pub with_atomic : Attrs → Attrs
with_atomic a = record a { atomic = true }

abbrev pub with_aggregator : Attrs → Aggregator → Attrs
with_aggregator a g = record a { aggregator = Some g }

abbrev pub with_other : Attrs → List Raw → Attrs
with_other a rs = record a { other = rs }

-- whether an attribute of this code is there
abbrev pub has_code : Attrs → ℕ → Bool
has_code a code =
    if code == ORIGIN then is_some a.origin
    else if code == AS_PATH then is_some a.path
    else if code == NEXT_HOP then is_some a.next_hop
    else if code == MULTI_EXIT_DISC then is_some a.med
    else if code == LOCAL_PREF then is_some a.local_pref
    else if code == ATOMIC_AGGREGATE then a.atomic
    else if code == AGGREGATOR then is_some a.aggregator
    else list_any (λ r. r.code == code) a.other

-- an attribute is put before the first of a greater code
abbrev pub put_raw : Raw → List Raw → List Raw
put_raw r [] = r ∷ []
put_raw r (s ∷ rest) = if nat_lt r.code s.code then r ∷ s ∷ rest else s ∷ put_raw r rest

abbrev pub aggregator_of : Width → List ℕ → ℕ → Aggregator
aggregator_of width value flags = record { asn = asn_at width value; addr = address_at value (asn_size width); partial = is_partial flags }

-- the value of an attribute of a known code, its flags and its length being good
abbrev pub with_value : Width → Attrs → List ℕ → List ℕ → Result Attrs Fault
with_value width a attr value =
    let code = slice_index attr 1 in
    if code == ORIGIN then (if nat_lt INCOMPLETE (slice_index value 0) then Err (attr_fault INVALID_ORIGIN_ATTRIBUTE attr) else Ok (with_origin a (slice_index value 0)))
    else if code == AS_PATH then (path_reading width value >>= λ p. Ok (with_path a p))
    else if code == NEXT_HOP then (if is_unicast (address_at value 0) then Ok (with_next_hop a (address_at value 0)) else Err (attr_fault INVALID_NEXT_HOP_ATTRIBUTE attr))
    else if code == MULTI_EXIT_DISC then Ok (with_med a (address_at value 0))
    else if code == LOCAL_PREF then Ok (with_local_pref a (address_at value 0))
    else if code == ATOMIC_AGGREGATE then Ok (with_atomic a)
    else Ok (with_aggregator a (aggregator_of width value (slice_index attr 0)))

-- an attribute of an unknown code, which has to be optional
abbrev pub other_reading : Attrs → List ℕ → List ℕ → Result Attrs Fault
other_reading a attr value =
    let flags = slice_index attr 0 in
    if nat_lt flags OPTIONAL then Err (attr_fault UNRECOGNIZED_WELL_KNOWN_ATTRIBUTE attr) else Ok (with_other a (put_raw (raw_of (high_flags flags) (slice_index attr 1) value) a.other))

-- one attribute more, in the order of checking: its code is no repeat, an unknown one is optional, then the flags, the
-- length and the value by the table
abbrev pub with_attr : Width → Attrs → List ℕ → List ℕ → Result Attrs Fault
with_attr width a attr value =
    let flags = slice_index attr 0 in
    let code = slice_index attr 1 in
    if has_code a code then Err (update_fault MALFORMED_ATTRIBUTE_LIST)
    else if not (is_known code) then other_reading a attr value
    else if not (flags_fit code flags) then Err (attr_fault ATTRIBUTE_FLAGS_ERROR attr)
    else if not (size_fits width code (length value)) then Err (attr_fault ATTRIBUTE_LENGTH_ERROR attr)
    else with_value width a attr value

-- the attributes that octets consist of, behind those that were read, of which there are at most so many
unfoldable pub attrs_in : Width → ℕ → Attrs → List ℕ → Result Attrs Fault
attrs_in width n a [] = Ok a
attrs_in width zero a (octet ∷ rest) = Ok a
attrs_in width (suc n) a (octet ∷ rest) = attr_at (octet ∷ rest) >>= λ v. with_attr width a v.0 v.1 >>= λ b. attrs_in width n b v.2

abbrev pub attrs_from : Width → Attrs → List ℕ → Result Attrs Fault
attrs_from width a octets = attrs_in width (length octets) a octets

abbrev pub attrs_reading : Width → List ℕ → Result Attrs Fault
attrs_reading width octets = attrs_from width no_attrs octets

-- the announced prefixes, in the order of checking: the mandatory attributes, then the prefixes, then the peer
abbrev pub announced_by : Option ℕ → Option ℕ → Attrs → List ℕ → Result (List PrefixView) Fault
announced_by (Some code) peer a octets = Err (fault_of UPDATE_MESSAGE_ERROR MISSING_WELL_KNOWN_ATTRIBUTE (code ∷ []))
announced_by None peer a octets = prefixes_reading octets >>= λ ps. if is_from peer a then Ok ps else Err (update_fault MALFORMED_AS_PATH)

abbrev pub announced_reading : Option ℕ → Attrs → List ℕ → Result (List PrefixView) Fault
announced_reading peer a octets = announced_by (missing a) peer a octets

abbrev pub nlri_reading : Option ℕ → Attrs → List ℕ → Result (List PrefixView) Fault
nlri_reading peer a [] = Ok []
nlri_reading peer a (octet ∷ rest) = announced_reading peer a (octet ∷ rest)

-- how many octets the withdrawn prefixes have, and the attributes behind them
abbrev pub withdrawn_len : List ℕ → ℕ
withdrawn_len body = number_at body 0

abbrev pub attrs_len : List ℕ → ℕ
attrs_len body = number_at body (2 + withdrawn_len body)

abbrev pub update_of : List PrefixView → Attrs → List PrefixView → Update
update_of withdrawn attrs nlri = record { withdrawn = withdrawn; attrs = attrs; nlri = nlri }

-- the three parts, one after the other
abbrev pub parts_reading : Rule → List ℕ → List ℕ → List ℕ → Result Update Fault
parts_reading rule withdrawn attrs nlri =
    prefixes_reading withdrawn >>= λ ws. attrs_reading rule.width attrs >>= λ a. nlri_reading rule.peer a nlri >>= λ ps. Ok (update_of ws a ps)

-- an UPDATE: its two lengths are inside, then its parts
unfoldable pub update_reading : Rule → List ℕ → Result Update Fault
update_reading rule body =
    let first = withdrawn_len body in
    let second = attrs_len body in
    if nat_lt (length body) (4 + first) || nat_lt (length body) (4 + (first + second)) then Err (update_fault MALFORMED_ATTRIBUTE_LIST)
    else parts_reading rule (take first (drop 2 body)) (take second (drop (4 + first) body)) (drop (4 + (first + second)) body)
