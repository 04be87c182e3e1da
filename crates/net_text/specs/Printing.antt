-- The lines that messages and faults are printed as, those of paths, and those that a check of an assignment prints.
use Rattle.std.specs.Prelude.{ℕ, ◌/◌, ◌%◌, ◌^◌, List, [], ◌∷◌, ◌++◌, codes, decimal, map, Option, Some, None, unwrap_or}
use Rattle.std.specs.List.{flat_map, join_with_byte}
use Rattle.prefix_lanes.specs.Bits.{PrefixView}
use Rattle.bgp_values.specs.declared.width.Width.TheVariants.{Two}
use Rattle.bgp_codec.specs.declared.attributes.Attrs.{Attrs}
use Rattle.hex.specs.Hex.{encode_lower}
use Rattle.bgp_codec.specs.declared.fault.Fault.{Fault}
use Rattle.bgp_codec.specs.declared.message.Message.{Message}
use Rattle.bgp_codec.specs.declared.message.Message.TheVariants.{OpenMsg, UpdateMsg, NoticeMsg, AliveMsg}
use Rattle.bgp_codec.specs.declared.notice.Notice.{Notice}
use Rattle.bgp_codec.specs.declared.open.Cap.{Cap}
use Rattle.bgp_codec.specs.declared.open.Open.{Open}
use Rattle.bgp_codec.specs.declared.path.Segment.{Segment}
use Rattle.bgp_codec.specs.declared.path.SegmentKind.TheVariants.{AsSet, AsSequence}
use Rattle.bgp_codec.specs.declared.update.Update.{Update}
use Rattle.bgp_codec.specs.Spelling.{written}
use Rattle.net_text.specs.declared.code.Code.{Code}
use Rattle.net_text.specs.declared.code.Code.TheVariants as kinds

-- a buffer: what it had, and what was written behind that
pub record Written : Type 0 where
  pub front : List ℕ
  pub text : List ℕ

-- the octets in lower-case hex, or a dash if there are none
abbrev pub hex_or_dash : List ℕ → List ℕ
hex_or_dash [] = codes "-"
hex_or_dash (octet ∷ octets) = encode_lower (octet ∷ octets)

-- a text as a line
abbrev pub line : List ℕ → List ℕ
line text = text ++ 10 ∷ []

-- a NOTIFICATION: its code, its subcode, its data
unfoldable pub notice_line : Notice → List ℕ
notice_line notice = codes "notification " ++ (decimal notice.code ++ (codes " " ++ (decimal notice.sub ++ (codes " " ++ hex_or_dash notice.extra))))

-- a NOTIFICATION of these parts
abbrev pub noticed : ℕ → ℕ → List ℕ → Notice
noticed code sub extra = record { code = code; sub = sub; extra = extra }

-- an address as its four octets
unfoldable pub address_text : ℕ → List ℕ
address_text address =
    decimal (address / 2 ^ 24) ++ (codes "." ++ (decimal (address / 2 ^ 16 % 256) ++ (codes "." ++ (decimal (address / 2 ^ 8 % 256) ++ (codes "." ++ decimal (address % 256))))))

-- a capability: its code and its value
unfoldable pub cap_text : Cap → List ℕ
cap_text cap = codes " cap " ++ (decimal cap.code ++ (codes " " ++ hex_or_dash cap.value))

-- the capabilities of a parameter
abbrev pub param_text : List Cap → List ℕ
param_text caps = flat_map cap_text caps

-- an OPEN: the number, the hold time, the identifier, the capabilities
unfoldable pub open_line : Open → List ℕ
open_line message =
    codes "open as " ++ (decimal message.asn ++ (codes " hold " ++ (decimal message.hold ++ (codes " id " ++ (address_text message.id ++ flat_map param_text message.params)))))

-- a prefix, a space before it: its address and how many of its bits count
unfoldable pub prefix_text : PrefixView → List ℕ
prefix_text prefix = codes " " ++ (address_text prefix.addr ++ (codes "/" ++ decimal prefix.len))

abbrev pub prefixes_text : List PrefixView → List ℕ
prefixes_text prefixes = flat_map prefix_text prefixes

-- a segment of a path: a set in braces, with commas, or a sequence, with dashes
unfoldable pub segment_text : Segment → List ℕ
segment_text segment = elim segment.kind [
  | AsSet ↦ codes "{" ++ (join_with_byte 44 (map decimal segment.numbers) ++ codes "}")
  | AsSequence ↦ join_with_byte 45 (map decimal segment.numbers)
]

-- segments with a dash between them, or that there are none
unfoldable pub segments_text : List Segment → List ℕ
segments_text [] = codes "none"
segments_text (segment ∷ segments) = join_with_byte 45 (map segment_text (segment ∷ segments))

-- a path; an absent one has no segment
abbrev pub path_text : Option (List Segment) → List ℕ
path_text None = codes "none"
path_text (Some segments) = segments_text segments

-- what is said of the routes that an UPDATE announces. A message that was read has a path and a next hop there; without
-- them these would be `none` and 0.0.0.0
unfoldable pub route_text : Attrs → List ℕ
route_text attrs = codes " path " ++ (path_text attrs.path ++ (codes " next " ++ address_text (unwrap_or attrs.next_hop 0)))

-- the withdrawn prefixes, if there are any
abbrev pub withdrawn_text : List PrefixView → List ℕ
withdrawn_text [] = []
withdrawn_text (prefix ∷ prefixes) = codes " withdraw" ++ prefixes_text (prefix ∷ prefixes)

-- the announced prefixes and their routes, if there are any
abbrev pub announced_text : Attrs → List PrefixView → List ℕ
announced_text attrs [] = []
announced_text attrs (prefix ∷ prefixes) = codes " announce" ++ (prefixes_text (prefix ∷ prefixes) ++ route_text attrs)

-- an UPDATE: what is withdrawn, then what is announced
unfoldable pub update_line : Update → List ℕ
update_line message = codes "update" ++ (withdrawn_text message.withdrawn ++ announced_text message.attrs message.nlri)

-- the line of a message
unfoldable pub message_line : Message → List ℕ
message_line (OpenMsg message) = open_line message
message_line (UpdateMsg message) = update_line message
message_line (NoticeMsg notice) = notice_line notice
message_line AliveMsg = codes "keepalive"

-- an UPDATE that was in flight: from whom, to whom, and its own line
unfoldable pub flight_line : ℕ → ℕ → Update → List ℕ
flight_line from to message = codes "flight " ++ (decimal from ++ (codes " " ++ (decimal to ++ (codes " " ++ line (update_line message)))))

-- the NOTIFICATION of a fault
abbrev pub notice_of : Fault → Message
notice_of fault = NoticeMsg (record { code = fault.code; sub = fault.sub; extra = fault.extra })

-- the two lines of a fault: its name, and its NOTIFICATION in hex
unfoldable pub fault_lines : Fault → List ℕ
fault_lines fault = line (codes "fault " ++ (decimal fault.code ++ (codes " " ++ decimal fault.sub))) ++ line (encode_lower (written Two (notice_of fault)))

-- the line of a rest that is no whole message
unfoldable pub truncated_line : ℕ → List ℕ
truncated_line n = line (codes "truncated " ++ decimal n)

-- ---- checks

-- a path: its numbers with a dash between them, or that there is none
abbrev pub numbers_text : List ℕ → List ℕ
numbers_text [] = codes "none"
numbers_text (number ∷ numbers) = join_with_byte 45 (map decimal (number ∷ numbers))

-- numbers, a mark before each
abbrev pub marked : ℕ → List ℕ → List ℕ
marked mark numbers = flat_map (λ n. mark ∷ decimal n) numbers

-- a word, a number, a prefix and a path
unfoldable pub routed_line : List ℕ → ℕ → PrefixView → List ℕ → List ℕ
routed_line word number prefix path = line (word ++ (decimal number ++ (prefix_text prefix ++ (codes " " ++ numbers_text path))))

-- the code of a refusal
abbrev pub code_text : Code → List ℕ
code_text kinds.BadForm = codes "N1"
code_text kinds.Unreadable = codes "N2"
code_text kinds.UnknownRouter = codes "N3"
code_text kinds.Repeated = codes "N4"
code_text kinds.NotConnected = codes "N5"
code_text kinds.OutOfLimit = codes "N6"
code_text kinds.NotSimple = codes "N7"
code_text kinds.BadPrefix = codes "N8"
code_text kinds.Memory = codes "N9"
code_text kinds.NotPermitted = codes "S1"

-- a line that is refused, and why
unfoldable pub refused_line : ℕ → List ℕ → List ℕ
refused_line at code = line (codes "refused " ++ (decimal at ++ (codes " " ++ code)))

-- a router that would move: the path that it has, and its best
unfoldable pub unstable_line : ℕ → List ℕ → List ℕ → List ℕ
unstable_line router has best = line (codes "unstable " ++ (decimal router ++ (codes " has " ++ (numbers_text has ++ (codes " best " ++ numbers_text best)))))

-- no router would move
abbrev pub stable_line : List ℕ
stable_line = line (codes "stable")
