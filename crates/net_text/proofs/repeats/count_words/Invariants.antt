-- the words passed are counted
use Rattle.std.proofs.Common.{◌≡◌, ◌+◌, ◌≤◌, length}
use Rattle.net_text.specs.Lexing.{words_of}
use Rattle.net_text.proofs.repeats.count_words.Given as goal

abbrev pub invariant-words : goal.invariant-words
invariant-words l = record {
  counted : l.count + length (words_of l.left) ≡ length (words_of l.line);
  inside : l.count + length l.left ≤ length l.line;
}

abbrev pub decreases-words : goal.decreases-words
decreases-words l = length l.left
