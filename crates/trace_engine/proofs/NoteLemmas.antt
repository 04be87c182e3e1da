-- Notes on an event are comments.
use Rattle.std.proofs.Common.{◌≡◌, ◌≢◌, ℕ, Bool, true, false, List, [], ◌∷◌, ◌++◌, map, refl, ap, ◌∙◌, arith}
use Rattle.std.specs.Prelude.{codes, if◌then◌else◌}
use Rattle.std.specs.List.{AllByRecursion}
use Rattle.net_text.specs.Lexing.{Text, words_of}
use Rattle.net_text.specs.Layout.{IsOneLine}
use Rattle.net_text.specs.Comments.{comment_line, comments_text, AreComments}
use Rattle.trace_engine.specs.Noting.{begin_note, noted, notes_text, AreNotes}

noted_by : (b : Bool) (line : Text) → IsOneLine line → IsOneLine (if b then line else codes "also " ++ line)
noted_by true line one = one
noted_by false line one =
    ((λ e. absurd (omega (arith, e))), ((λ e. absurd (omega (arith, e))), ((λ e. absurd (omega (arith, e))), ((λ e. absurd (omega (arith, e))), ((λ e. absurd (omega (arith, e))), one)))))

module _ (shows : Bool) where
  all_noted : (lines : List Text) → AllByRecursion IsOneLine lines → AllByRecursion IsOneLine (map (noted shows) lines)
  all_noted [] all = tt
  all_noted (line ∷ lines) all = (noted_by (begin_note shows (words_of line)) line all.0, all_noted lines all.1)

  text_is : (lines : List Text) → notes_text shows lines ≡ comments_text (map (noted shows) lines)
  text_is [] = refl
  text_is (line ∷ lines) = ap (λ (t : List ℕ). comment_line (noted shows line) ++ t) (text_is lines)

  pub are_comments : (text : List ℕ) → AreNotes shows text → AreComments text
  are_comments text notes = record { lines = map (noted shows) notes.lines; are_lines = all_noted notes.lines notes.are_lines; are = notes.are ∙ text_is notes.lines }
