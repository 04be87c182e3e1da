-- Lines that say nothing to a reader.
use Rattle.std.specs.Prelude.{◌≡◌, ℕ, List, ◌++◌, codes}
use Rattle.std.specs.List.{AllByRecursion, flat_map}
use Rattle.net_text.specs.Lexing.{Text}
use Rattle.net_text.specs.Layout.{IsOneLine}
use Rattle.net_text.specs.Printing.{line}

-- a text as a comment
abbrev pub comment_line : Text → List ℕ
comment_line text = line (codes "# " ++ text)

abbrev pub comments_text : List Text → List ℕ
comments_text lines = flat_map comment_line lines

-- lines that each begin with `# `
pub record AreComments (text : List ℕ) : Type 0 where
  pub lines : List Text
  pub are_lines : AllByRecursion IsOneLine lines
  pub are : text ≡ comments_text lines
