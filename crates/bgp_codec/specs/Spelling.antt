-- How each message is spelt (RFC 4271 section 4), and the one spelling that is written.
use Rattle.std.specs.Prelude.{◌≡◌, ℕ, ◌+◌, ◌≤◌, ◌<◌, ◌⊎◌, List, [], ◌∷◌, ◌++◌, length, slice_index}
use Rattle.std.specs.Int.{w16, to_be_bytes}
use Rattle.bgp_values.specs.declared.messages.TheConstants.{HEADER_LEN, MESSAGE_LIMIT, OPEN, UPDATE, NOTIFICATION, KEEPALIVE}
use Rattle.bgp_values.specs.declared.ranges.TheConstants.{LEAST_HOLD}
use Rattle.marker_lanes.specs.Marker.{marker}
use Rattle.bgp_codec.specs.declared.message.Message.{Message}
use Rattle.bgp_codec.specs.declared.message.Message.TheVariants.{OpenMsg, UpdateMsg, NoticeMsg, AliveMsg}
use Rattle.bgp_codec.specs.declared.notice.Notice.{Notice}
use Rattle.bgp_codec.specs.declared.open.Open.{Open}
use Rattle.bgp_codec.specs.declared.rule.Rule.{Rule}
use Rattle.bgp_values.specs.declared.width.Width.{Width}
use Rattle.bgp_codec.specs.Opens.{SpellsOpen, OpenFits, open_octets}
use Rattle.bgp_codec.specs.Updates.{SpellsUpdate, UpdateFits, update_octets}

-- each element is an octet
abbrev pub IsOctets : List ℕ → Type 0
IsOctets octets = (i : ℕ) → slice_index octets i < 256

-- section 4.1: the Marker, the length of the whole message in two octets, the type
unfoldable pub header_of : ℕ → ℕ → List ℕ
header_of kind body_len = marker ++ to_be_bytes w16 (HEADER_LEN + body_len) ++ kind ∷ []

-- a header, and the body
unfoldable pub framed : ℕ → List ℕ → List ℕ
framed kind body = header_of kind (length body) ++ body

-- the type of a message
abbrev pub kind_of : Message → ℕ
kind_of (OpenMsg message) = OPEN
kind_of (UpdateMsg message) = UPDATE
kind_of (NoticeMsg notice) = NOTIFICATION
kind_of AliveMsg = KEEPALIVE

-- section 4.5: the error code, the error subcode, the data
abbrev pub notice_octets : Notice → List ℕ
notice_octets notice = notice.code ∷ notice.sub ∷ notice.extra

-- these octets are a body of the message, under the rule
abbrev pub SpellsBody : Rule → List ℕ → Message → Type 0
SpellsBody rule body (OpenMsg message) = SpellsOpen rule body message
SpellsBody rule body (UpdateMsg message) = SpellsUpdate rule body message
SpellsBody rule body (NoticeMsg notice) = body ≡ notice_octets notice
SpellsBody rule body AliveMsg = body ≡ []

-- these octets spell the message, under the rule: a header and a body of it, no more octets in all than a message may have
pub record Spells (rule : Rule) (octets : List ℕ) (message : Message) : Type 0 where
  pub body : List ℕ
  pub spelt : SpellsBody rule body message
  pub fits : HEADER_LEN + length body ≤ MESSAGE_LIMIT
  pub whole : octets ≡ framed (kind_of message) body

-- each field is one that can be read, and each part fits its own length field
abbrev pub IsWritable : Rule → Message → Type 0
IsWritable rule (OpenMsg message) = OpenFits message
IsWritable rule (UpdateMsg message) = UpdateFits rule.width message
IsWritable rule (NoticeMsg notice) = Unit {0}
IsWritable rule AliveMsg = Unit {0}

-- the body that is written, where AS numbers have so many octets
abbrev pub written_body : Width → Message → List ℕ
written_body width (OpenMsg message) = open_octets message
written_body width (UpdateMsg message) = update_octets width message
written_body width (NoticeMsg notice) = notice_octets notice
written_body width AliveMsg = []

-- the one spelling that is written
abbrev pub written : Width → Message → List ℕ
written width message = framed (kind_of message) (written_body width message)

-- what is written has the nineteen octets of a header, and those of its body
abbrev pub WrittenHasAHeader : Type 0
WrittenHasAHeader = (width : Width) (message : Message) → length (written width message) ≡ HEADER_LEN + length (written_body width message)

-- section 4.2: the hold time of an OPEN that is writable is 0, or no less than the least one
abbrev pub OpenHasAHoldTime : Type 0
OpenHasAHoldTime = (rule : Rule) (message : Open) → IsWritable rule (OpenMsg message) → (message.hold ≡ 0) ⊎ (LEAST_HOLD ≤ message.hold)
