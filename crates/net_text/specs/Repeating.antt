-- Paths in order, and room for those of a line.
use Rattle.std.specs.Prelude.{ℕ, ◌≡◌, ◌<◌, ◌≤◌, Bool, true, false, List, [], ◌∷◌, length, codes}
use Rattle.std.specs.List.{list_any}
use Rattle.std.specs.Ordering.{nat_cmp, is_lt}
use Rattle.std.specs.Cmp.Lexicographic.{slice_cmp}
use denote.Ref.{Bor}
use Rattle.net_text.specs.declared.repeats.TheConstants.{MOST_PAIRED}
use Rattle.net_text.specs.Lexing.{Text, same, words_of}
use Rattle.net_text.specs.Words.{path_of}

abbrev pub path_in : Bor Text → List ℕ
path_in word = path_of word.now

-- by their numbers: none comes before one that stands in front of it
abbrev pub AreInOrder : List (List ℕ) → Type 0
AreInOrder [] = Unit {0}
AreInOrder (path ∷ paths) = (list_any (λ other. is_lt (slice_cmp nat_cmp other path)) paths ≡ false) × AreInOrder paths

-- the words are those of a rule
abbrev pub is_rule : List Text → Bool
is_rule [] = false
is_rule (name ∷ words) = same name (codes "rank")

-- there is room for all words of a line, if it is the line of a rule and is long
abbrev pub HasRoom : ℕ → Text → Type 0
HasRoom room line = MOST_PAIRED < length line → is_rule (words_of line) ≡ true → length (words_of line) ≤ room
