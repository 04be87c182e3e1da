-- what is left decides
use Rattle.std.proofs.Common.{◌≡◌, length}
use Rattle.error_words.specs.Spelling.{stands_behind}
use Rattle.error_words.proofs.spelling.stands_behind.Given as goal

abbrev pub invariant-octets : goal.invariant-octets
invariant-octets l = stands_behind l.number l.left ≡ stands_behind l.number l.word

abbrev pub decreases-octets : goal.decreases-octets
decreases-octets l = length l.left
