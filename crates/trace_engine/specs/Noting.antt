-- The comments behind an event: the first word of each is one of a list, so that none looks like a comment of a line or of
-- a round, or like that of a refusal. `shows` is whether octets are shown.
use Rattle.std.specs.Prelude.{◌≡◌, ◌&&◌, ◌||◌, ℕ, Bool, false, List, [], ◌∷◌, ◌++◌, codes, if◌then◌else◌}
use Rattle.std.specs.List.{AllByRecursion, flat_map}
use Rattle.net_text.specs.Lexing.{Text, words_of, same}
use Rattle.net_text.specs.Layout.{IsOneLine}
use Rattle.net_text.specs.Comments.{comment_line}

-- the first words of what is said of an event
abbrev pub begins_note : Bool → Text → Bool
begins_note shows name =
    same name (codes "sends") || (shows && same name (codes "octets")) || same name (codes "takes") || same name (codes "hears")
    || same name (codes "tells") || same name (codes "offers") || same name (codes "keeps") || same name (codes "session")
    || same name (codes "records")

abbrev pub begin_note : Bool → List Text → Bool
begin_note shows [] = false
begin_note shows (name ∷ words) = begins_note shows name

-- a line that begins with another word has the word `also` in front
abbrev pub noted : Bool → Text → Text
noted shows line = if begin_note shows (words_of line) then line else codes "also " ++ line

abbrev pub note_line : Bool → Text → List ℕ
note_line shows line = comment_line (noted shows line)

abbrev pub notes_text : Bool → List Text → List ℕ
notes_text shows lines = flat_map (note_line shows) lines

-- comments, each of which begins with one of these words, or with `also`
pub record AreNotes (shows : Bool) (text : List ℕ) : Type 0 where
  pub lines : List Text
  pub are_lines : AllByRecursion IsOneLine lines
  pub are : text ≡ notes_text shows lines
