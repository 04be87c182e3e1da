-- the lines passed stand before the first that clashes, and are no more than the octets passed
use Rattle.std.proofs.Common.{◌≡◌, ◌+◌, ◌≤◌, length}
use Rattle.net_text.specs.Lexing.{words_of, lines_of}
use Rattle.error_words.specs.Places.{before_clash}
use Rattle.error_words.proofs.places.before_clash.Given as goal

abbrev pub invariant-lines : goal.invariant-lines
invariant-lines l =
    record {
      counted : l.before + before_clash (words_of l.line) (lines_of l.left) ≡ before_clash (words_of l.line) (lines_of l.input);
      inside : l.before + length l.left ≤ length l.input;
    }

abbrev pub decreases-lines : goal.decreases-lines
decreases-lines l = length l.left
