-- What a user may have meant whose input is refused, or whose words are not taken.
use Rattle.std.specs.Prelude.{ℕ, ◌==◌, ◌||◌, ◌&&◌, nat_eq, nat_le, Bool, false, List, [], ◌∷◌, replicate, Option, None, Some, codes, if◌then◌else◌}
use Rattle.std.specs.List.{list_all, list_any, starts_with}
use Rattle.error_words.specs.declared.hints.Hint.{Hint}
use Rattle.error_words.specs.declared.hints.Hint.TheVariants as hint
use Rattle.net_text.specs.Lexing.{Text, words_of}

abbrev pub has : ℕ → Text → Bool
has x text = list_any (λ y. y == x) text

-- the input begins with a byte order mark of UTF-8
abbrev pub is_marked : Text → Bool
is_marked input = starts_with nat_eq input (239 ∷ 187 ∷ 191 ∷ [])

-- the input begins with a byte order mark of UTF-16
abbrev pub is_wide : Text → Bool
is_wide input = starts_with nat_eq input (255 ∷ 254 ∷ []) || starts_with nat_eq input (254 ∷ 255 ∷ [])

-- the input begins as pcap does, in either byte order, with micro- or nanoseconds, or as pcapng does
abbrev pub is_capture : Text → Bool
is_capture input =
    starts_with nat_eq input (212 ∷ 195 ∷ 178 ∷ 161 ∷ []) || starts_with nat_eq input (161 ∷ 178 ∷ 195 ∷ 212 ∷ [])
    || starts_with nat_eq input (77 ∷ 60 ∷ 178 ∷ 161 ∷ []) || starts_with nat_eq input (161 ∷ 178 ∷ 60 ∷ 77 ∷ [])
    || starts_with nat_eq input (10 ∷ 13 ∷ 13 ∷ 10 ∷ [])

-- the input begins with the Marker of a message, as octets
abbrev pub is_message : Text → Bool
is_message input = starts_with nat_eq input (replicate 16 255)

-- an octet of a place or a time: a hex digit, an x, a dot or a colon
abbrev pub is_place_octet : ℕ → Bool
is_place_octet x =
    (nat_le 48 x && nat_le x 58) || (nat_le 97 x && nat_le x 102) || (nat_le 65 x && nat_le x 70) || (x == 120) || (x == 46)

-- a line begins with a place or a time, which a colon ends or parts
abbrev pub is_placed : List Text → Bool
is_placed [] = false
is_placed (word ∷ words) = has 58 word && list_all is_place_octet word

-- the line is one of a hexdump: it begins with a place or a time, or characters stand between bars
abbrev pub is_dump : Text → Bool
is_dump line = has 124 line || is_placed (words_of line)

-- the hint on an input that is refused for this line
abbrev pub hint_of_line : Text → Text → Option Hint
hint_of_line input line =
    if is_marked input then Some hint.Mark
    else if is_wide input then Some hint.Wide
    else if has 13 line then Some hint.Return
    else if has 35 line then Some hint.Remark
    else None

-- the hint on an input that is no hex, whose first line is this
abbrev pub hint_of_hex : Text → Text → Option Hint
hint_of_hex input first =
    if is_marked input then Some hint.Mark
    else if is_wide input then Some hint.Wide
    else if is_capture input then Some hint.Capture
    else if is_message input then Some hint.Octets
    else if is_dump first then Some hint.Dump
    else if has 35 input then Some hint.HexRemark
    else None

abbrev pub hint_text : Hint → Text
hint_text hint.Mark = codes "the input begins with a byte order mark: save it without one"
hint_text hint.Wide = codes "the input is UTF-16: save it as ASCII or UTF-8"
hint_text hint.Remark = codes "a remark stands on a line of its own, '#' in front"
hint_text hint.Return = codes "a CR alone ends no line: save the input with LF behind each line"
hint_text hint.Capture = codes "the input is a capture: tools/streams prints what its sessions say, and their hex"
hint_text hint.Octets = codes "the input is octets: 'xxd -p FILE | bgpnet decode' hands them on as hex"
hint_text hint.Dump = codes "the input is a hexdump: 'xxd -p FILE' writes the digits alone"
hint_text hint.HexRemark = codes "decode reads digits and blanks alone: take the remarks ('#') out"
