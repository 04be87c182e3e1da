-- What the program says on the standard error: lines that each begin with its name.
use Rattle.std.specs.Prelude.{ℕ, zero, suc, ◌≡◌, ◌==◌, ◌||◌, ◌&&◌, not, Bool, false, [], ◌++◌, Option, None, Some, unwrap_or, codes, decimal, if◌then◌else◌}
use Rattle.std.specs.Bool.{MatchBool}
use Rattle.text_engines.specs.declared.status.TheConstants.{REFUSED, USAGE, MEMORY, STOPPED}
use Rattle.net_text.specs.Lexing.{Text, words_of, same, begins_with}
use Rattle.net_text.specs.Printing.{line}
use Rattle.text_engines.specs.declared.transfer.TheConstants.{INPUT_LIMIT}
use Rattle.error_words.specs.declared.hints.Hint.{Hint}
use Rattle.error_words.specs.declared.saying.End.{End}
use Rattle.error_words.specs.Showing.{shown, remark_text}
use Rattle.error_words.specs.Faults.{fault_of}
use Rattle.error_words.specs.Reasons.{reason}
use Rattle.error_words.specs.Advice.{advice}
use Rattle.error_words.specs.Refusals.{Refused, refusal_in, without_mark, line_at}
use Rattle.error_words.specs.Warnings.{network_lines, IsWarned}
use Rattle.error_words.specs.Hints.{hint_text, hint_of_line, hint_of_hex, has}

-- ---- refusals

abbrev pub place_text : ℕ → Text
place_text zero = []
place_text (suc before) = codes "line " ++ (decimal (suc before) ++ codes ": ")

-- the words on the line that is refused, if it is known
abbrev pub found_text : Option Text → Text
found_text None = []
found_text (Some text) = codes ": " ++ shown text

unfoldable pub refusal_text : Text → ℕ → Text → Option Text → Text
refusal_text input at code found = line (codes "bgpnet: " ++ (place_text at ++ (code ++ (codes ": " ++ (reason input at code found ++ found_text found)))))

-- ---- hints

abbrev pub hint_said : Option Hint → Text
hint_said None = []
hint_said (Some hint) = remark_text (hint_text hint)

-- ---- the words if this line was printed last, for an input with this front

abbrev pub no_hex : Text
no_hex = codes "the input has an octet that is no hex digit and no blank, or half an octet"

abbrev pub first_line : Text → Text
first_line input = unwrap_or (line_at input 1) []

-- a hint on the line, or what to write in its place
abbrev pub helped_said : Option Hint → Text → Text
helped_said None other = other
helped_said (Some hint) other = remark_text (hint_text hint)

unfoldable pub line_said : Text → ℕ → Text → Text → Text
line_said input at code line = helped_said (hint_of_line input line) (advice input at code line)

abbrev pub named_said : Text → Option Refused → Text
named_said input None = []
named_said input (Some refused) =
    refusal_text input refused.at refused.code (line_at input refused.at)
    ++ line_said input refused.at refused.code (unwrap_or (line_at input refused.at) [])

-- of a fault its name, else of a refusal why
abbrev pub fault_said : Option Text → Text → Text → Text
fault_said (Some text) last input = remark_text text
fault_said None last input = named_said input (refusal_in (without_mark (words_of last)))

abbrev pub refused_said : Text → Text → Text
refused_said last input =
    if same last (codes "bad hex") then remark_text no_hex ++ hint_said (hint_of_hex input (first_line input))
    else fault_said (fault_of last) last input

abbrev pub stopped_said : Bool → Text
stopped_said read_failed = remark_text (if read_failed then codes "the standard input can't be read" else codes "the standard output can't be written")

-- ---- words that are not taken

-- a word that reads an input, with no number behind it
abbrev pub reads_alone : Text → Bool
reads_alone word =
    same word (codes "decode") || same word (codes "check") || same word (codes "play") || same word (codes "trace")
    || same word (codes "run") || same word (codes "record") || same word (codes "stable")
    || same word (codes "safe")

-- a word that reads an input, and what stands behind it
abbrev pub usage_of : Text → Option Text
usage_of word =
    if same word (codes "cut") then Some (codes " S < ")
    else if same word (codes "why") then Some (codes " U < ")
    else if reads_alone word then Some (codes " < ")
    else None

-- a name of a file: no option, with a dot or a slash
abbrev pub is_file : Text → Bool
is_file name = not (begins_with 45 name) && (has 46 name || has 47 name)

unfoldable pub file_text : Text → Text → Text → Text
file_text word usage name = line (codes "bgpnet: the input is the standard input: bgpnet " ++ (word ++ (usage ++ shown name)))

abbrev pub used_said : Text → Option Text → Text → Text
used_said word None name = []
used_said word (Some usage) name = if is_file name then file_text word usage name else []

-- the words on arguments that are not taken, by the first and the last
abbrev pub words_said : Text → Text → Text
words_said word name = used_said word (usage_of word) name

-- how many octets of an input are kept for what is said of it
abbrev pub bound_of : Text → ℕ
bound_of word = if same word (codes "decode") then 512 else INPUT_LIMIT

-- ---- all that is said

-- the words on how a run ended
abbrev pub said : End → Text
said end =
    if end.status == STOPPED then stopped_said end.read_failed
    else if end.status == REFUSED then refused_said end.last.now end.input.now
    else if end.status == USAGE then words_said end.word.now end.name.now
    else []

-- a network was answered, by a word that asks for its stable assignments or its dispute wheels
abbrev pub answers_network : End → Bool
answers_network end =
    if (end.status == REFUSED) || (end.status == USAGE) || (end.status == MEMORY) || (end.status == STOPPED) then false
    else same end.word.now (codes "stable") || same end.word.now (codes "safe")

-- the warnings of a network that was answered, else the words on how the run ended
abbrev pub IsSaid : End → Text → Type 0
IsSaid end text = MatchBool (answers_network end) (IsWarned (network_lines end.input.now) text) (text ≡ said end)
