-- The header of a message and its checks (RFC 4271 sections 4.1 and 6.1).
use Rattle.std.specs.Prelude.{◌≡◌, ℕ, ◌≤◌, nat_le, nat_eq, ◌==◌, ◌&&◌, Bool, not, List, [], ◌∷◌, length, take, slice_index, Option, Some, None, if◌then◌else◌}
use Rattle.std.specs.List.{starts_with}
use Rattle.std.specs.Int.{w16, from_be_bytes}
use Rattle.bgp_values.specs.declared.messages.TheConstants.{HEADER_LEN, MESSAGE_LIMIT, LEAST_OPEN, LEAST_UPDATE, LEAST_NOTIFICATION, OPEN, UPDATE, NOTIFICATION, KEEPALIVE}
use Rattle.marker_lanes.specs.Marker.{marker}
use Rattle.bgp_codec.specs.declared.fault.Fault.{Fault}
use Rattle.bgp_values.specs.declared.faults.TheConstants.{MESSAGE_HEADER_ERROR, CONNECTION_NOT_SYNCHRONIZED, BAD_MESSAGE_LENGTH, BAD_MESSAGE_TYPE}

-- a fault with its code, subcode and data
abbrev pub fault_of : ℕ → ℕ → List ℕ → Fault
fault_of code sub extra = record { code = code; sub = sub; extra = extra }

-- the Marker is all ones
unfoldable pub begins_with_marker : List ℕ → Bool
begins_with_marker octets = starts_with nat_eq octets marker

-- the field Length, as it stands and as a number
abbrev pub length_octets : List ℕ → List ℕ
length_octets octets = slice_index octets 16 ∷ slice_index octets 17 ∷ []

abbrev pub length_field : List ℕ → ℕ
length_field octets = from_be_bytes w16 (length_octets octets)

-- the field Type
abbrev pub kind_field : List ℕ → ℕ
kind_field octets = slice_index octets 18

abbrev pub is_message_len : ℕ → Bool
is_message_len len = nat_le HEADER_LEN len && nat_le len MESSAGE_LIMIT

abbrev pub is_kind : ℕ → Bool
is_kind kind = nat_le OPEN kind && nat_le kind KEEPALIVE

-- which lengths a type may have: the least of its messages or more, and of a KEEPALIVE a header alone
abbrev pub length_fits : ℕ → ℕ → Bool
length_fits kind len =
    if kind == OPEN then nat_le LEAST_OPEN len
    else if kind == UPDATE then nat_le LEAST_UPDATE len
    else if kind == NOTIFICATION then nat_le LEAST_NOTIFICATION len
    else len == HEADER_LEN

-- the first check that fails in a header of nineteen octets, whatever stands behind it
unfoldable pub header_fault : List ℕ → Option Fault
header_fault octets =
    if not (begins_with_marker octets) then Some (fault_of MESSAGE_HEADER_ERROR CONNECTION_NOT_SYNCHRONIZED [])
    else if not (is_message_len (length_field octets)) then Some (fault_of MESSAGE_HEADER_ERROR BAD_MESSAGE_LENGTH (length_octets octets))
    else if not (is_kind (kind_field octets)) then Some (fault_of MESSAGE_HEADER_ERROR BAD_MESSAGE_TYPE (kind_field octets ∷ []))
    else if not (length_fits (kind_field octets) (length_field octets)) then Some (fault_of MESSAGE_HEADER_ERROR BAD_MESSAGE_LENGTH (length_octets octets))
    else None

-- a frame: the octets of one message whose header is good, and whose Length is their number
pub record IsFrame (octets : List ℕ) : Type 0 where
  pub has_header : HEADER_LEN ≤ length octets
  pub good : header_fault octets ≡ None
  pub whole : length octets ≡ length_field octets

-- the checks of a header and its Length look at the first nineteen octets alone, and a good Length is that of a header to that of the longest message
pub record IsItsFront (n : ℕ) (octets : List ℕ) : Type 0 where
  pub same_fault : header_fault (take n octets) ≡ header_fault octets
  pub same_length : length_field (take n octets) ≡ length_field octets
  pub bounds : header_fault octets ≡ None → (HEADER_LEN ≤ length_field octets) × (length_field octets ≤ MESSAGE_LIMIT)

abbrev pub HeaderIsItsFront : Type 0
HeaderIsItsFront = (n : ℕ) (octets : List ℕ) → HEADER_LEN ≤ n → IsItsFront n octets

-- the data of a header's fault has at most two octets
abbrev pub HeaderFaultIsShort : Type 0
HeaderFaultIsShort = (octets : List ℕ) (fault : Fault) → header_fault octets ≡ Some fault → length fault.extra ≤ 2
