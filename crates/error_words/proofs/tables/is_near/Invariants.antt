-- what is left of both decides
use Rattle.std.proofs.Common.{◌≡◌, length}
use Rattle.error_words.specs.Tables.{is_near}
use Rattle.error_words.proofs.tables.is_near.Given as goal

abbrev pub invariant-octets : goal.invariant-octets
invariant-octets l = is_near l.left l.wanted ≡ is_near l.word l.name

abbrev pub decreases-octets : goal.decreases-octets
decreases-octets l = length l.left
