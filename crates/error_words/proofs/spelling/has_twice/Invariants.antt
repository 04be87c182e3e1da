-- what is left decides
use Rattle.std.proofs.Common.{◌≡◌, length}
use Rattle.error_words.specs.Spelling.{twice_from, has_twice}
use Rattle.error_words.proofs.spelling.has_twice.Given as goal

abbrev pub invariant-octets : goal.invariant-octets
invariant-octets l = twice_from l.starts l.left ≡ has_twice l.word

abbrev pub decreases-octets : goal.decreases-octets
decreases-octets l = length l.left
