-- the words passed stand once
use Rattle.std.proofs.Common.{◌≡◌, length}
use Rattle.net_text.specs.Lexing.{words_of}
use Rattle.error_words.specs.Reasons.{any_twice}
use Rattle.error_words.proofs.reasons.any_twice.Given as goal

abbrev pub invariant-words : goal.invariant-words
invariant-words l = any_twice (words_of l.left) ≡ any_twice (words_of l.words)

abbrev pub decreases-words : goal.decreases-words
decreases-words l = length l.left
