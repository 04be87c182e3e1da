-- Texts: their lines, and the words of a line.
use Rattle.std.specs.Prelude.{ℕ, ◌≡◌, ◌==◌, ◌||◌, ◌&&◌, nat_lt, Bool, true, false, List, [], ◌∷◌, if◌then◌else◌}
use Rattle.std.specs.List.{list_all}

abbrev pub Text : Type 0
Text = List ℕ

-- one more octet in front of the first of these
abbrev pub first_more : ℕ → List Text → List Text
first_more x [] = (x ∷ []) ∷ []
first_more x (text ∷ texts) = (x ∷ text) ∷ texts

abbrev pub begins_with : ℕ → Text → Bool
begins_with x [] = false
begins_with x (y ∷ ys) = y == x

-- a line ends by LF, which is not part of it, nor is one CR before the LF; a last line needs no LF
abbrev pub lines_of : Text → List Text
lines_of [] = []
lines_of (x ∷ xs) =
    if x == 10 then [] ∷ lines_of xs
    else if (x == 13) && begins_with 10 xs then lines_of xs
    else first_more x (lines_of xs)

-- a line as it stands before its LF, without one CR at its end
abbrev pub without_return : Text → Text
without_return [] = []
without_return (x ∷ []) = if x == 13 then [] else x ∷ []
without_return (x ∷ y ∷ ys) = x ∷ without_return (y ∷ ys)

-- space or tab
abbrev pub is_blank : ℕ → Bool
is_blank x = (x == 32) || (x == 9)

abbrev pub ends_word : Text → Bool
ends_word [] = true
ends_word (x ∷ xs) = is_blank x

-- a word comes next, or nothing at all
abbrev pub IsWordNext : Text → Type 0
IsWordNext [] = Unit {0}
IsWordNext (x ∷ xs) = is_blank x ≡ false

-- words stand between blanks
abbrev pub words_of : Text → List Text
words_of [] = []
words_of (x ∷ xs) =
    if is_blank x then words_of xs
    else if ends_word xs then (x ∷ []) ∷ words_of xs
    else first_more x (words_of xs)

-- what stands between the separators: one part more than there are separators
abbrev pub parts : ℕ → Text → List Text
parts separator [] = [] ∷ []
parts separator (x ∷ xs) = if x == separator then [] ∷ parts separator xs else first_more x (parts separator xs)

-- two words are the same
abbrev pub same : Text → Text → Bool
same [] [] = true
same [] (y ∷ ys) = false
same (x ∷ xs) [] = false
same (x ∷ xs) (y ∷ ys) = (x == y) && same xs ys

-- no word at all, or a comment
abbrev pub says_nothing : List Text → Bool
says_nothing [] = true
says_nothing (word ∷ words) = begins_with 35 word

abbrev pub is_skipped : Text → Bool
is_skipped line = says_nothing (words_of line)

abbrev pub is_ascii : Text → Bool
is_ascii line = list_all (λ x. nat_lt x 128) line

-- ---- sections: a line that is one bare word parts a text

abbrev pub is_the_word : Text → List Text → Bool
is_the_word name [] = false
is_the_word name (word ∷ []) = same word name
is_the_word name (word ∷ other ∷ words) = false

abbrev pub is_section : Text → Text → Bool
is_section name line = is_the_word name (words_of line)

-- the lines before the first such line, and those behind it
abbrev pub before_section : Text → List Text → List Text
before_section name [] = []
before_section name (line ∷ lines) = if is_section name line then [] else line ∷ before_section name lines

abbrev pub behind_section : Text → List Text → List Text
behind_section name [] = []
behind_section name (line ∷ lines) = if is_section name line then lines else behind_section name lines
