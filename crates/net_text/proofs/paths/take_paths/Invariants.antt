-- the paths passed are taken
use Rattle.std.proofs.Common.{◌≡◌, ◌++◌, length, map}
use Rattle.std.specs.List.{All}
use Rattle.net_text.specs.Lexing.{words_of}
use Rattle.net_text.specs.Words.{path_of}
use Rattle.net_text.specs.Taking.{IsTakeable}
use Rattle.net_text.proofs.paths.take_paths.Given as goal

abbrev pub invariant-words : goal.invariant-words
invariant-words l = record { whole : map path_of (words_of l.words) ≡ l.paths.items ++ map path_of (words_of l.left); good : All IsTakeable (words_of l.left) }

abbrev pub decreases-words : goal.decreases-words
decreases-words l = length l.left
