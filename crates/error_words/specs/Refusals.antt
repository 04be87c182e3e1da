-- Lines that refuse an input, and the line of the input that they name.
use Rattle.std.specs.Prelude.{ℕ, zero, suc, ◌&&◌, List, [], ◌∷◌, Option, None, Some, codes, slice_get, if◌then◌else◌}
use Rattle.net_text.specs.Lexing.{Text, lines_of, same}
use Rattle.net_text.specs.Words.{is_number, value_of}

-- the words of a line without the mark of a comment in front
abbrev pub without_mark : List Text → List Text
without_mark [] = []
without_mark (word ∷ words) = if same word (codes "#") then words else word ∷ words

-- what is refused: a line, counted from 1, or the whole input, whose number is 0; and why
pub record Refused : Type 0 where
  pub at : ℕ
  pub code : Text

-- the refusal that words are: `refused`, a line and a code
abbrev pub refusal_in : List Text → Option Refused
refusal_in [] = None
refusal_in (word ∷ []) = None
refusal_in (word ∷ place ∷ []) = None
refusal_in (word ∷ place ∷ code ∷ []) =
    if same word (codes "refused") && is_number place then Some (record { at = value_of place; code = code }) else None
refusal_in (word ∷ place ∷ code ∷ other ∷ words) = None

-- the line of this number, counted from 1
abbrev pub line_at : Text → ℕ → Option Text
line_at input zero = None
line_at input (suc before) = slice_get (lines_of input) before
