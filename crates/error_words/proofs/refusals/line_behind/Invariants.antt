-- the line that is wanted is the one behind as many of the lines that are left as are still to be passed
use Rattle.std.proofs.Common.{◌≡◌, length}
use Rattle.std.specs.Prelude.{slice_get}
use Rattle.net_text.specs.Lexing.{lines_of}
use Rattle.error_words.proofs.refusals.line_behind.Given as goal

abbrev pub invariant-lines : goal.invariant-lines
invariant-lines l = slice_get (lines_of l.left) l.skipped ≡ slice_get (lines_of l.input) l.before

abbrev pub decreases-lines : goal.decreases-lines
decreases-lines l = length l.left
