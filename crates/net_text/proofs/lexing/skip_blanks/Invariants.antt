-- what is left has the same words
use Rattle.std.proofs.Common.{◌≡◌, ◌≤◌, length}
use Rattle.net_text.specs.Lexing.{words_of}
use Rattle.net_text.proofs.lexing.skip_blanks.Given as goal

abbrev pub invariant-blanks : goal.invariant-blanks
invariant-blanks l = record { words : words_of l.left ≡ words_of l.line; shorter : length l.left ≤ length l.line }

abbrev pub decreases-blanks : goal.decreases-blanks
decreases-blanks l = length l.left
