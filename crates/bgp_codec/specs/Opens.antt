-- OPEN: its parts, how they are spelt, and its first fault (RFC 4271 sections 4.2 and 6.2, RFC 5492 section 4).
use Rattle.std.specs.Prelude.{◌≡◌, ℕ, ◌+◌, ◌^◌, ◌<◌, nat_lt, ◌==◌, ◌||◌, ◌&&◌, not, Bool, true, List, [], ◌∷◌, ◌++◌, length, take, drop, slice_index, Option, Some, None, Result, Ok, Err, if◌then◌else◌}
use Rattle.std.specs.Option.{option_or}
use Rattle.std.specs.List.{flat_map, AllByRecursion}
use Rattle.std.specs.Int.{w16, w32, to_be_bytes, from_be_bytes}
use Rattle.bgp_values.specs.declared.messages.TheConstants.{VERSION, CAPABILITIES, FOUR_OCTET_ASN}
use Rattle.bgp_values.specs.declared.width.TheConstants.{AS_TRANS}
use Rattle.bgp_values.specs.declared.width.Width.{Width}
use Rattle.bgp_values.specs.declared.width.Width.TheVariants.{Two, Four}
use Rattle.bgp_codec.specs.declared.fault.Fault.{Fault}
use Rattle.bgp_values.specs.declared.faults.TheConstants.{OPEN_MESSAGE_ERROR, UNSUPPORTED_VERSION_NUMBER, UNSPECIFIC, BAD_PEER_AS, BAD_BGP_IDENTIFIER, UNSUPPORTED_CAPABILITY, UNSUPPORTED_OPTIONAL_PARAMETER, UNACCEPTABLE_HOLD_TIME}
use Rattle.bgp_values.specs.Ranges.{is_hold_time, is_unicast}
use Rattle.bgp_codec.specs.declared.open.Cap.{Cap}
use Rattle.bgp_codec.specs.declared.open.Open.{Open}
use Rattle.bgp_codec.specs.declared.rule.Rule.{Rule}
use Rattle.bgp_codec.specs.AsNumbers.{address_at}
use Rattle.bgp_codec.specs.Header.{fault_of}
use Rattle.bgp_codec.specs.Reading.{◌>>=◌, Reader, all_of}

-- ---- spelling

-- one octet of length, and that many octets
abbrev pub short_string : List ℕ → List ℕ
short_string octets = length octets ∷ octets

-- RFC 5492: the code of a capability, and its value
abbrev pub cap_octets : Cap → List ℕ
cap_octets cap = cap.code ∷ short_string cap.value

-- a parameter of capabilities: these capabilities
abbrev pub param_octets : List Cap → List ℕ
param_octets caps = CAPABILITIES ∷ short_string (flat_map cap_octets caps)

-- the version, AS, hold time, identifier, parameters
abbrev pub open_octets : Open → List ℕ
open_octets o = VERSION ∷ (to_be_bytes w16 o.asn ++ (to_be_bytes w16 o.hold ++ (to_be_bytes w32 o.id ++ short_string (flat_map param_octets o.params))))

abbrev pub CapFits : Cap → Type 0
CapFits cap = length cap.value < 256

abbrev pub ParamFits : List Cap → Type 0
ParamFits caps = AllByRecursion CapFits caps × (length (flat_map cap_octets caps) < 256)

-- each field has a value that a reader accepts
pub record OpenFits (o : Open) : Type 0 where
  pub asn : o.asn < 2 ^ 16
  pub hold : o.hold < 2 ^ 16
  pub hold_time : is_hold_time o.hold ≡ true
  pub id : o.id < 2 ^ 32
  pub unicast : is_unicast o.id ≡ true
  pub params : AllByRecursion ParamFits o.params
  pub all : length (flat_map param_octets o.params) < 256

-- ---- the speaker's number

-- a fault of an OPEN without data
abbrev pub open_fault : ℕ → Fault
open_fault sub = fault_of OPEN_MESSAGE_ERROR sub []

-- the field AS is the peer's number, where a peer is named; where numbers have four octets it may be AS_TRANS
abbrev pub is_peer : Width → Option ℕ → ℕ → Bool
is_peer width None asn = true
is_peer Two (Some peer) asn = asn == peer
is_peer Four (Some peer) asn = (asn == peer) || (asn == AS_TRANS)

abbrev pub cap_of : ℕ → List ℕ → Cap
cap_of code value = record { code = code; value = value }

-- RFC 6793 section 3: the number that a capability says in four octets; one of another length says none
abbrev pub number_said : Cap → Option ℕ
number_said cap = if (cap.code == FOUR_OCTET_ASN) && (length cap.value == 4) then Some (address_at cap.value 0) else None

-- the first number that one of them says
abbrev pub first_said : {A : Type 0} → (A → Option ℕ) → List A → Option ℕ
first_said says [] = None
first_said says (x ∷ xs) = option_or (says x) (first_said says xs)

-- the first number that capabilities say, and that parameters of capabilities say
abbrev pub said_by : List Cap → Option ℕ
said_by caps = first_said number_said caps

abbrev pub said_in : List (List Cap) → Option ℕ
said_in params = first_said said_by params

-- the octets of the capability of four-octet numbers: the data of the fault of an OPEN that lacks it
abbrev pub own_capability : ℕ → List ℕ
own_capability own = FOUR_OCTET_ASN ∷ 4 ∷ to_be_bytes w32 own

abbrev pub capability_fault : ℕ → Fault
capability_fault own = fault_of OPEN_MESSAGE_ERROR UNSUPPORTED_CAPABILITY (own_capability own)

-- if the rule names the reader, a number has to be said; if it names a peer, a number that is said has to be the peer's
abbrev pub said_fault : Option ℕ → Option ℕ → Option ℕ → Option Fault
said_fault None peer None = None
said_fault (Some own) peer None = Some (capability_fault own)
said_fault own None (Some asn) = None
said_fault own (Some peer) (Some asn) = if asn == peer then None else Some (open_fault BAD_PEER_AS)

-- numbers of two octets need no capability
abbrev pub number_fault : Width → Option ℕ → Option ℕ → Option ℕ → Option Fault
number_fault Two own peer said = None
number_fault Four own peer said = said_fault own peer said

abbrev pub params_fault : Rule → List (List Cap) → Option Fault
params_fault rule params = number_fault rule.width rule.own rule.peer (said_in params)

-- ---- the spelling

-- these octets are an OPEN's body, under the rule
pub record SpellsOpen (rule : Rule) (body : List ℕ) (o : Open) : Type 0 where
  pub fits : OpenFits o
  pub peer : is_peer rule.width rule.peer o.asn ≡ true
  pub said : params_fault rule o.params ≡ None
  pub whole : body ≡ open_octets o

-- ---- the first fault, from left to right

-- a value in front, its length at 1 and its octets from 2, and what follows it
abbrev pub value_at : List ℕ → Result (List ℕ × List ℕ) Fault
value_at [] = Err (open_fault UNSPECIFIC)
value_at (kind ∷ []) = Err (open_fault UNSPECIFIC)
value_at (kind ∷ len ∷ rest) = if nat_lt (length rest) len then Err (open_fault UNSPECIFIC) else Ok (take len rest, drop len rest)

-- a capability in front: its code, and its value inside
abbrev pub cap_at : Reader Cap
cap_at octets = value_at octets >>= λ v. Ok (cap_of (slice_index octets 0) v.0, v.1)

abbrev pub caps_reading : List ℕ → Result (List Cap) Fault
caps_reading octets = all_of cap_at octets

-- a parameter in front: its value is inside, its kind is that of capabilities, which fill it
abbrev pub param_at : Reader (List Cap)
param_at octets = value_at octets >>= λ v. if not (slice_index octets 0 == CAPABILITIES) then Err (open_fault UNSUPPORTED_OPTIONAL_PARAMETER) else (caps_reading v.0 >>= λ caps. Ok (caps, v.1))

abbrev pub params_reading : List ℕ → Result (List (List Cap)) Fault
params_reading octets = all_of param_at octets

-- the fields of a body of at least ten octets
abbrev pub asn_field : List ℕ → ℕ
asn_field body = from_be_bytes w16 (slice_index body 1 ∷ slice_index body 2 ∷ [])

abbrev pub hold_field : List ℕ → ℕ
hold_field body = from_be_bytes w16 (slice_index body 3 ∷ slice_index body 4 ∷ [])

abbrev pub id_field : List ℕ → ℕ
id_field body = from_be_bytes w32 (slice_index body 5 ∷ slice_index body 6 ∷ slice_index body 7 ∷ slice_index body 8 ∷ [])

abbrev pub open_of : List ℕ → List (List Cap) → Open
open_of body params = record { asn = asn_field body; hold = hold_field body; id = id_field body; params = params }

-- a value, unless the last check found a fault
abbrev pub unless : {A : Type 0} → Option Fault → A → Result A Fault
unless None x = Ok x
unless (Some first) x = Err first

-- the OPEN of a body whose parameters have these octets
abbrev pub open_behind : Rule → List ℕ → List ℕ → Result Open Fault
open_behind rule body octets = params_reading octets >>= λ params. unless (params_fault rule params) (open_of body params)

-- the checks in order: version, AS, hold time, identifier, that the parameters fill the rest, the parameters, the
-- number that they say
unfoldable pub open_reading : Rule → List ℕ → Result Open Fault
open_reading rule body =
    if not (slice_index body 0 == VERSION) then Err (fault_of OPEN_MESSAGE_ERROR UNSUPPORTED_VERSION_NUMBER (0 ∷ VERSION ∷ []))
    else if not (is_peer rule.width rule.peer (asn_field body)) then Err (open_fault BAD_PEER_AS)
    else if not (is_hold_time (hold_field body)) then Err (open_fault UNACCEPTABLE_HOLD_TIME)
    else if not (is_unicast (id_field body)) then Err (open_fault BAD_BGP_IDENTIFIER)
    else if not (length body == 10 + slice_index body 9) then Err (open_fault UNSPECIFIC)
    else open_behind rule body (drop 10 body)
