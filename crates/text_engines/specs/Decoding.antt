-- What is printed for a stream of messages.
use Rattle.std.specs.Prelude.{◌≡◌, ℕ, ◌<◌, ◌≤◌, nat_lt, ◌==◌, ◌||◌, not, Bool, List, [], ◌∷◌, ◌++◌, length, codes, filter, Option, Some, None, Result, Ok, Err, if◌then◌else◌, ◌⊎◌, MatchResult}
use Rattle.hex.specs.Hex.{decode_of}
use Rattle.bgp_values.specs.declared.messages.TheConstants.{HEADER_LEN}
use Rattle.bgp_codec.specs.declared.fault.Fault.{Fault}
use Rattle.bgp_codec.specs.declared.message.Message.{Message}
use Rattle.bgp_codec.specs.declared.rule.Rule.{Rule}
use Rattle.bgp_codec.specs.Header.{header_fault}
use Rattle.bgp_codec.specs.Faults.{reading}
use Rattle.bgp_framing.specs.Frames.{Splits}
use Rattle.net_text.specs.declared.code.Code.TheVariants as kinds
use Rattle.net_text.specs.Printing.{line, message_line, fault_lines, truncated_line, code_text, refused_line}
use Rattle.text_engines.specs.declared.status.TheConstants.{DONE, REFUSED, MEMORY}
use Rattle.text_engines.specs.declared.transfer.TheConstants.{INPUT_LIMIT}

-- a text, and the status that the program ends with
pub record Output : Type 0 where
  pub text : List ℕ
  pub status : ℕ

abbrev pub output : List ℕ → ℕ → Output
output text status = record { text = text; status = status }

abbrev pub behind : List ℕ → Output → Output
behind text more = output (text ++ more.text) more.status

-- what is printed for a refused line
abbrev pub refused : ℕ → List ℕ → Output
refused at code = output (refused_line at code) REFUSED

-- what is printed for want of memory
abbrev pub memory_output : Output
memory_output = output (codes "memory\n") MEMORY

-- for an input within the limit this; one beyond it is refused
abbrev pub WithinLimit : (List ℕ → Output → Type 0) → List ℕ → Output → Type 0
WithinLimit Gives input out = (INPUT_LIMIT < length input × (out ≡ refused 0 (code_text kinds.OutOfLimit))) ⊎ ((length input ≤ INPUT_LIMIT) × Gives input out)

-- what the program prints: that, or that memory ran out
abbrev pub OrMemory : (List ℕ → Output → Type 0) → List ℕ → Output → Type 0
OrMemory Gives input out = Gives input out ⊎ (out ≡ memory_output)

-- for a rest of so many octets that may still become a message: nothing, or that it is cut short
abbrev pub short_output : ℕ → Output
short_output n = if n == 0 then output [] DONE else output (truncated_line n) REFUSED

abbrev pub fault_or_short : Option Fault → ℕ → Output
fault_or_short (Some fault) n = output (fault_lines fault) REFUSED
fault_or_short None n = short_output n

-- for a rest: the fault of its header where it has one
unfoldable pub rest_output : List ℕ → Output
rest_output rest = if nat_lt (length rest) HEADER_LEN then short_output (length rest) else fault_or_short (header_fault rest) (length rest)

-- for what a frame reads as, and what comes after it: nothing comes after a fault
abbrev pub read_output : Result Message Fault → Output → Output
read_output (Ok m) more = behind (line (message_line m)) more
read_output (Err fault) more = output (fault_lines fault) REFUSED

-- for frames and a rest
unfoldable pub frames_output : Rule → List (List ℕ) → List ℕ → Output
frames_output rule [] rest = rest_output rest
frames_output rule (frame ∷ frames) rest = read_output (reading rule frame) (frames_output rule frames rest)

-- for a stream: it is split into frames and a rest
abbrev pub StreamGives : Rule → List ℕ → Output → Type 0
StreamGives rule octets out = (frames : List (List ℕ)) × (rest : List ℕ) × Splits octets frames rest × (out ≡ frames_output rule frames rest)

-- what is printed for octets, whatever comes behind them: with no status this text, and then what is printed for what comes; else this text alone
abbrev pub Leads : Rule → List ℕ → List ℕ → Option ℕ → Type 0
Leads rule octets text None = (later : List ℕ) (more : Output) → StreamGives rule later more → StreamGives rule (octets ++ later) (behind text more)
Leads rule octets text (Some status) = (later : List ℕ) → StreamGives rule (octets ++ later) (output text status)

abbrev pub is_blank : ℕ → Bool
is_blank octet = (octet == 32) || ((octet == 9) || ((octet == 13) || (octet == 10)))

-- for digits
abbrev pub DigitsGive : Rule → List ℕ → Output → Type 0
DigitsGive rule digits out = MatchResult (decode_of digits) (λ octets. StreamGives rule octets out) (λ _. out ≡ output (codes "bad hex\n") REFUSED)

-- for a text in hex, its blanks (space, tab, CR, LF) skipped
abbrev pub HexGives : Rule → List ℕ → Output → Type 0
HexGives rule input out = DigitsGive rule (filter (λ octet. not (is_blank octet)) input) out

-- for an input, which may be too long
abbrev pub DecodeGives : Rule → List ℕ → Output → Type 0
DecodeGives rule input out = WithinLimit (HexGives rule) input out

-- what the program prints: that, or that memory ran out
abbrev pub Prints : Rule → List ℕ → Output → Type 0
Prints rule input out = OrMemory (DecodeGives rule) input out

-- new is old and what is printed for a frame: with no status more follows, else that is all
abbrev pub PutsFrame : Rule → List ℕ → List ℕ → List ℕ → Option ℕ → Type 0
PutsFrame rule frame old new None = (text : List ℕ) × (new ≡ old ++ text) × ((more : Output) → read_output (reading rule frame) more ≡ behind text more)
PutsFrame rule frame old new (Some status) = (text : List ℕ) × (new ≡ old ++ text) × ((more : Output) → read_output (reading rule frame) more ≡ output text status)

-- new is old and what is printed for a rest of so many octets
abbrev pub PutsShort : ℕ → List ℕ → List ℕ → ℕ → Type 0
PutsShort n old new status = (new ≡ old ++ (short_output n).text) × (status ≡ (short_output n).status)
