-- How a text is laid out, said without reading it: lines with their ends, words with the blanks between them.
use Rattle.std.specs.Prelude.{◌≡◌, ◌≢◌, ◌↔◌, ℕ, ◌-◌, ◌==◌, ◌&&◌, nat_lt, Bool, true, false, List, [], ◌∷◌, ◌++◌, length, get_or, if◌then◌else◌}
use Rattle.std.specs.List.{AllByRecursion, flat_map}
use Rattle.net_text.specs.Lexing.{Text, is_blank, ends_word, lines_of, without_return, words_of}

-- ---- words

abbrev pub AreBlank : Text → Type 0
AreBlank gap = AllByRecursion (λ x. is_blank x ≡ true) gap

-- some octets, none of them blank
abbrev pub IsWord : Text → Type 0
IsWord word = (word ≢ []) × AllByRecursion (λ x. is_blank x ≡ false) word

-- blanks, a word, and a blank or the end behind it; and so on, up to blanks at the end
abbrev pub HasWords : Text → List Text → Type 0
HasWords text [] = AreBlank text
HasWords text (word ∷ words) =
    (gap : Text) × (rest : Text) × (text ≡ gap ++ (word ++ rest)) × AreBlank gap × IsWord word × (ends_word rest ≡ true) × HasWords rest words

-- the words of a line are those that stand between its blanks, and no others
abbrev pub WordsStandBetweenBlanks : Type 0
WordsStandBetweenBlanks = (text : Text) (words : List Text) → words ≡ words_of text ↔ HasWords text words

-- ---- lines

-- no LF among them
abbrev pub IsOneLine : Text → Type 0
IsOneLine line = AllByRecursion (λ x. x ≢ 10) line

-- a line goes up to an LF, one CR before that aside, and the lines behind it are those of the rest; a last line needs no LF; a text
-- that ends has no more
pub record LinesEndByLineFeeds : Type 0 where
  pub front : (line rest : Text) → IsOneLine line → lines_of (line ++ 10 ∷ rest) ≡ without_return line ∷ lines_of rest
  pub last : (line : Text) → line ≢ [] → IsOneLine line → lines_of line ≡ line ∷ []
  pub none : lines_of [] ≡ []

-- ---- lines that are written again

-- the last octet of a text is a CR
abbrev pub ends_in_return : Text → Bool
ends_in_return text = nat_lt 0 (length text) && (get_or text (length text - 1) 0 == 13)

-- a line with its end; a CR at its end stands twice, since the reader takes one away
abbrev pub whole_line : Text → List ℕ
whole_line text = text ++ (if ends_in_return text then 13 ∷ 10 ∷ [] else 10 ∷ [])

abbrev pub network_text : List Text → List ℕ
network_text lines = flat_map whole_line lines
