-- The reading of a frame: its message, or its first fault in the order of checking (RFC 4271 section 6).
use Rattle.std.specs.Prelude.{◌≡◌, ◌≢◌, ℕ, true, [], ◌≤◌, ◌==◌, List, length, slice_index, drop, Option, Some, None, Result, Ok, Err, if◌then◌else◌}
use Rattle.bgp_values.specs.declared.messages.TheConstants.{MESSAGE_LIMIT, HEADER_LEN, OPEN, UPDATE, NOTIFICATION, MOST_DATA}
use Rattle.bgp_codec.specs.declared.fault.Fault.{Fault}
use Rattle.bgp_codec.specs.declared.fault.CodecError.{CodecError}
use Rattle.bgp_codec.specs.declared.fault.CodecError.TheVariants as errors
use Rattle.bgp_codec.specs.declared.message.Message.{Message}
use Rattle.bgp_codec.specs.declared.message.Message.TheVariants.{OpenMsg, UpdateMsg, NoticeMsg, AliveMsg}
use Rattle.bgp_codec.specs.declared.rule.Rule.{Rule}
use Rattle.bgp_codec.specs.Opens.{open_reading, is_peer, params_fault}
use Rattle.bgp_codec.specs.Updates.{is_from}
use Rattle.bgp_codec.specs.UpdateReading.{update_reading}
use Rattle.bgp_codec.specs.Header.{header_fault, kind_field, IsFrame}
use Rattle.bgp_codec.specs.Spelling.{IsOctets, Spells, IsWritable, written}

-- the NOTIFICATION of a body of at least two octets: no check is left that could fail
abbrev pub notice_reading : List ℕ → Message
notice_reading body = NoticeMsg (record { code = slice_index body 0; sub = slice_index body 1; extra = drop 2 body })

abbrev pub read_as : {A : Type 0} → (A → Message) → Result A Fault → Result Message Fault
read_as make (Ok x) = Ok (make x)
read_as make (Err first) = Err first

-- the reading of the body of a frame of this type
abbrev pub body_reading : Rule → ℕ → List ℕ → Result Message Fault
body_reading rule kind body =
    if kind == OPEN then read_as OpenMsg (open_reading rule body)
    else if kind == UPDATE then read_as UpdateMsg (update_reading rule body)
    else if kind == NOTIFICATION then Ok (notice_reading body)
    else Ok AliveMsg

-- the reading of a frame: its message, or its first fault
unfoldable pub reading : Rule → List ℕ → Result Message Fault
reading rule octets = body_reading rule (kind_field octets) (drop HEADER_LEN octets)

-- the fault of a reading, if it has one
abbrev pub fault_in : Result Message Fault → Option Fault
fault_in (Ok message) = None
fault_in (Err first) = Some first

abbrev pub or_else : Option Fault → Option Fault → Option Fault
or_else None other = other
or_else (Some first) other = Some first

-- the first failing check of the octets of a header or more: the header's, then the body's
abbrev pub fault : Rule → List ℕ → Option Fault
fault rule octets = or_else (header_fault octets) (fault_in (reading rule octets))

-- why a frame is refused: its first fault, or want of memory
abbrev pub RefusesAs : Rule → List ℕ → CodecError → Type 0
RefusesAs rule octets (errors.Fault first) = fault rule octets ≡ Some first
RefusesAs rule octets errors.TooLong = ⊥
RefusesAs rule octets errors.Memory = Unit {0}

-- a frame has a message exactly where it has no fault, and then only one
abbrev pub OneMessageOrFault : Type 0
OneMessageOrFault = (rule : Rule) (octets : List ℕ) → IsOctets octets → IsFrame octets →
    (fault rule octets ≡ None → (message : Message) × Spells rule octets message)
    × ((message : Message) → Spells rule octets message → fault rule octets ≡ None)
    × ((one other : Message) → Spells rule octets one → Spells rule octets other → one ≡ other)

-- the data of a frame's fault fits the NOTIFICATION that tells of it
abbrev pub FaultFitsAMessage : Type 0
FaultFitsAMessage = (rule : Rule) (octets : List ℕ) (first : Fault) → IsFrame octets → fault rule octets ≡ Some first → length first.extra ≤ MOST_DATA

-- a writable message is written as a spelling of itself, under a rule that names nobody
abbrev pub WrittenIsSpelt : Type 0
WrittenIsSpelt = (rule : Rule) (message : Message) → rule.peer ≡ None → rule.own ≡ None → IsWritable rule message → length (written rule.width message) ≤ MESSAGE_LIMIT → Spells rule (written rule.width message) message

-- what is written for such a message is a frame, and reads as the message
abbrev pub WrittenIsRead : Type 0
WrittenIsRead = (rule : Rule) (message : Message) → rule.peer ≡ None → rule.own ≡ None → IsWritable rule message → length (written rule.width message) ≤ MESSAGE_LIMIT
    → IsFrame (written rule.width message) × (reading rule (written rule.width message) ≡ Ok message)

-- the message fits the peer that the rule names, if it names one: an OPEN says that number, and a path begins with it
abbrev pub IsFrom : Rule → Message → Type 0
IsFrom rule (OpenMsg message) = (is_peer rule.width rule.peer message.asn ≡ true) × (params_fault rule message.params ≡ None)
IsFrom rule (UpdateMsg message) = message.nlri ≢ [] → is_from rule.peer message.attrs ≡ true
IsFrom rule (NoticeMsg notice) = Unit {0}
IsFrom rule AliveMsg = Unit {0}

-- what a peer writes reads as its message too, under a rule that names the peer
abbrev pub PeersWritingIsRead : Type 0
PeersWritingIsRead = (rule : Rule) (message : Message) → IsFrom rule message → IsWritable rule message → length (written rule.width message) ≤ MESSAGE_LIMIT
    → IsFrame (written rule.width message) × (reading rule (written rule.width message) ≡ Ok message)

-- a message that octets spell is writable, and is written in no more octets than those
abbrev pub SpeltIsWritable : Type 0
SpeltIsWritable = (rule : Rule) (octets : List ℕ) (message : Message) → Spells rule octets message → IsWritable rule message × (length (written rule.width message) ≤ length octets)
