-- what was put, before what is left, is what all are printed as
use Rattle.std.proofs.Common.{◌≡◌, ◌++◌, length}
use Rattle.net_text.specs.Lexing.{lines_of}
use Rattle.trace_engine.specs.Noting.{notes_text}
use Rattle.trace_engine.proofs.noting.put_notes.Given as goal

abbrev pub invariant-lines : goal.invariant-lines
invariant-lines l = l.out.items ++ notes_text l.shows_octets (lines_of l.left) ≡ l.fn.out.items ++ notes_text l.shows_octets (lines_of l.text)

abbrev pub decreases-lines : goal.decreases-lines
decreases-lines l = length l.left
