-- what is left of both decides
use Rattle.std.proofs.Common.{◌≡◌, length}
use Rattle.error_words.specs.Tables.{alike}
use Rattle.error_words.proofs.tables.alike.Given as goal

abbrev pub invariant-octets : goal.invariant-octets
invariant-octets l = alike l.left l.wanted ≡ alike l.word l.name

abbrev pub decreases-octets : goal.decreases-octets
decreases-octets l = length l.left
