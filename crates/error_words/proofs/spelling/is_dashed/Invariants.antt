-- what is left decides
use Rattle.std.proofs.Common.{◌≡◌, drop}
use Rattle.error_words.specs.Spelling.{are_numbers, is_dashed}
use Rattle.error_words.proofs.spelling.is_dashed.Given as goal

abbrev pub invariant-loop-x : goal.invariant-loop-x
invariant-loop-x l = are_numbers l.behind (drop l.x-index l.word) ≡ is_dashed l.word
