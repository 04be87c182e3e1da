-- the answer is that of what is left
use Rattle.std.proofs.Common.{◌≡◌, length, map}
use Rattle.std.specs.List.{list_any}
use Rattle.net_text.specs.Lexing.{same, words_of}
use Rattle.net_text.specs.Words.{path_of}
use Rattle.net_text.proofs.paths.has_path.Given as goal

abbrev pub invariant-words : goal.invariant-words
invariant-words l = list_any (same (path_of l.path)) (map path_of (words_of l.words)) ≡ list_any (same (path_of l.path)) (map path_of (words_of l.left))

abbrev pub decreases-words : goal.decreases-words
decreases-words l = length l.left
