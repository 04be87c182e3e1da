-- the paths passed have no fault
use Rattle.std.proofs.Common.{◌≡◌, length}
use Rattle.net_text.specs.Lexing.{words_of}
use Rattle.error_words.specs.Spelling.{faulty_in}
use Rattle.error_words.proofs.spelling.faulty_in.Given as goal

abbrev pub invariant-words : goal.invariant-words
invariant-words l = faulty_in l.number (words_of l.left) ≡ faulty_in l.number (words_of l.words)

abbrev pub decreases-words : goal.decreases-words
decreases-words l = length l.left
