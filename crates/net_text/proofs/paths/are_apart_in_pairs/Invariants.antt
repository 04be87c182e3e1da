-- the answer is that of what is left
use Rattle.std.proofs.Common.{◌≡◌, length, map}
use Rattle.net_text.specs.Lexing.{words_of}
use Rattle.net_text.specs.Words.{path_of}
use Rattle.net_text.specs.Lines.{are_distinct}
use Rattle.net_text.proofs.paths.are_apart_in_pairs.Given as goal

abbrev pub invariant-words : goal.invariant-words
invariant-words l = are_distinct (map path_of (words_of l.words)) ≡ are_distinct (map path_of (words_of l.left))

abbrev pub decreases-words : goal.decreases-words
decreases-words l = length l.left
