-- the words passed are others
use Rattle.std.proofs.Common.{◌≡◌, length}
use Rattle.std.specs.List.{list_any}
use Rattle.net_text.specs.Lexing.{words_of, same}
use Rattle.error_words.proofs.reasons.is_among.Given as goal

abbrev pub invariant-words : goal.invariant-words
invariant-words l = list_any (same l.word) (words_of l.left) ≡ list_any (same l.word) (words_of l.words)

abbrev pub decreases-words : goal.decreases-words
decreases-words l = length l.left
