-- Why a line is refused, by its words and by the lines before it.
use Rattle.std.specs.Prelude.{ℕ, ◌+◌, ◌&&◌, ◌||◌, not, nat_le, nat_lt, Bool, false, List, [], ◌∷◌, ◌++◌, length, Option, None, Some, unwrap_or, is_some, codes, decimal, if◌then◌else◌}
use Rattle.std.specs.List.{list_any}
use Rattle.error_words.specs.declared.reasons.TheConstants.{MOST_COMPARED}
use Rattle.net_text.specs.Lexing.{Text, lines_of, words_of, same, is_ascii}
use Rattle.net_text.specs.Words.{is_number}
use Rattle.error_words.specs.Tables.{found_in}
use Rattle.error_words.specs.Meanings.{meaning_at}
use Rattle.error_words.specs.Refusals.{line_at}
use Rattle.error_words.specs.Showing.{shown}
use Rattle.error_words.specs.Spelling.{no_path_in, faulty_in, first_number}
use Rattle.error_words.specs.Places.{before_clash, place_of, own_rows, network_rows, order_rows, path_rows, section_rows}

-- ---- N1: a form

-- a first word of some place
abbrev pub is_known : Text → Bool
is_known name =
    is_some (found_in network_rows name) || is_some (found_in order_rows name) || is_some (found_in path_rows name)
    || is_some (found_in section_rows name)

abbrev pub name_reason : Text → ℕ → Text → Text
name_reason input at name =
    if is_some (found_in (own_rows (place_of input at)) name) then codes "a wrong number of words"
    else if is_known name then codes "a first word that doesn't stand here"
    else codes "an unknown first word"

abbrev pub words_reason : Text → ℕ → List Text → Text
words_reason input at [] = meaning_at at (codes "N1")
words_reason input at (name ∷ words) = name_reason input at name

abbrev pub form_reason : Text → ℕ → Text → Text
form_reason input at line = if not (is_ascii line) then codes "an octet past ASCII" else words_reason input at (words_of line)

-- ---- N2: a word that can't be read

-- a prefix stands behind the router
abbrev pub has_prefix : Text → Bool
has_prefix name =
    same name (codes "rank") || same name (codes "path") || same name (codes "origin") || same name (codes "originate")
    || same name (codes "withdraw")

-- a word as it is shown, and what is said of it
unfoldable pub shown_with : Text → Text → Text
shown_with word what = shown word ++ what

abbrev pub path_reason : ℕ → Option Text → Text
path_reason at None = meaning_at at (codes "N2")
path_reason at (Some word) = shown_with word (codes " is no path")

abbrev pub second_reason : ℕ → Text → List Text → Text
second_reason at name [] = meaning_at at (codes "N2")
second_reason at name (word ∷ words) =
    if same name (codes "router") then shown_with word (codes " is no address of a router")
    else if has_prefix name then path_reason at (no_path_in words)
    else shown_with word (codes " is no number")

abbrev pub first_reason : ℕ → Text → List Text → Text
first_reason at name [] = meaning_at at (codes "N2")
first_reason at name (word ∷ words) = if is_number word then second_reason at name words else shown_with word (codes " is no number")

abbrev pub unread_reason : ℕ → List Text → Text
unread_reason at [] = meaning_at at (codes "N2")
unread_reason at (name ∷ words) = first_reason at name words

-- ---- N4: what came before

-- what an earlier line has, by its first word
abbrev pub again_rows : List (Text × Text)
again_rows =
    (codes "link", codes "this link, one way round or the other")
    ∷ (codes "origin", codes "the origin of this prefix, and a prefix has one")
    ∷ (codes "rank", codes "the paths of this router for this prefix")
    ∷ (codes "path", codes "the path of this router for this prefix")
    ∷ []

-- the first words behind the first word are the same
abbrev pub same_operand : List Text → List Text → Bool
same_operand (name ∷ a ∷ words) (other ∷ c ∷ others) = same a c
same_operand words others = false

-- what an earlier line has, by the words of both
abbrev pub again_what : Text → List Text → List Text → Text
again_what name words others =
    if same name (codes "router") then (if same_operand words others then codes "a router of this number" else codes "a router of this identifier")
    else unwrap_or (found_in again_rows name) (codes "this setting")

-- a word stands twice
abbrev pub any_twice : List Text → Bool
any_twice [] = false
any_twice (word ∷ words) = list_any (same word) words || any_twice words

-- a line that no line before it clashes with
abbrev pub within_reason : ℕ → Text → List Text → Text
within_reason at name words =
    if same name (codes "link") && any_twice words then codes "a link of a router with itself"
    else if same name (codes "rank") && any_twice words then codes "a path stands twice on the line"
    else meaning_at at (codes "N4")

-- the line of a number has this
unfoldable pub has_text : ℕ → Text → Text
has_text number what = codes "line " ++ (decimal number ++ (codes " has " ++ what))

abbrev pub earlier_text : Text → Text → List Text → ℕ → Text
earlier_text input name words number = has_text number (again_what name words (words_of (unwrap_or (line_at input number) [])))

-- the line clashes with the one behind so many others
abbrev pub clash_reason : Text → ℕ → Text → List Text → ℕ → Text
clash_reason input at name words before =
    if nat_lt (before + 1) at then earlier_text input name words (before + 1) else within_reason at name words

abbrev pub again_reason : Text → ℕ → List Text → Text
again_reason input at [] = meaning_at at (codes "N4")
again_reason input at (name ∷ words) = clash_reason input at name (name ∷ words) (before_clash (name ∷ words) (lines_of input))

-- ---- N7: a path

-- the faulty path of a rule, behind its router and its prefix
abbrev pub faulty_of : List Text → Option Text
faulty_of (name ∷ router ∷ prefix ∷ paths) = faulty_in router paths
faulty_of words = None

-- the router of a rule
abbrev pub router_of : List Text → Text
router_of (name ∷ router ∷ words) = router
router_of words = []

unfoldable pub other_text : Text → Text → Text
other_text path router = shown path ++ (codes " doesn't begin with its router, " ++ shown router)

abbrev pub rule_reason : ℕ → Text → Option Text → Text
rule_reason at router None = meaning_at at (codes "N7")
rule_reason at router (Some path) = if same (first_number path) router then shown_with path (codes " has a router twice") else other_text path router

-- ---- all

-- why a line is refused, if it is known
unfoldable pub known_reason : Text → ℕ → Text → Text → Text
known_reason input at code line =
    if same code (codes "N1") then form_reason input at line
    else if same code (codes "N2") then unread_reason at (words_of line)
    else if same code (codes "N4") then again_reason input at (words_of line)
    else if same code (codes "N7") then rule_reason at (router_of (words_of line)) (faulty_of (words_of line))
    else meaning_at at code

-- why a line is refused, or the whole input, if no line is known
abbrev pub reason : Text → ℕ → Text → Option Text → Text
reason input at code None = meaning_at at code
reason input at code (Some line) = if nat_le (length line) MOST_COMPARED then known_reason input at code line else meaning_at at code
