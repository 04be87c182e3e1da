-- the octets passed are no dashes
use Rattle.std.proofs.Common.{◌≡◌, ◌+◌, drop}
use Rattle.error_words.specs.Spelling.{before_dash}
use Rattle.error_words.proofs.spelling.before_dash.Given as goal

abbrev pub invariant-loop-x : goal.invariant-loop-x
invariant-loop-x l =
    record {
      counted : l.before + before_dash (drop l.x-index l.word) ≡ before_dash l.word;
      passed : l.before ≡ l.x-index;
    }
