-- the words passed are paths
use Rattle.std.proofs.Common.{◌≡◌, length}
use Rattle.net_text.specs.Lexing.{words_of}
use Rattle.error_words.specs.Spelling.{no_path_in}
use Rattle.error_words.proofs.spelling.no_path_in.Given as goal

abbrev pub invariant-words : goal.invariant-words
invariant-words l = no_path_in (words_of l.left) ≡ no_path_in (words_of l.words)

abbrev pub decreases-words : goal.decreases-words
decreases-words l = length l.left
