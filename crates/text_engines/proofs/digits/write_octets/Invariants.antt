-- the octets in front are those of the digits that were seen
use Rattle.std.proofs.Common.{◌-◌, length}
use Rattle.text_engines.proofs.DigitLemmas.{Written}
use Rattle.text_engines.proofs.digits.write_octets.Given as goal

abbrev pub invariant-pieces : goal.invariant-pieces
invariant-pieces l = Written l.digits l.octets l.are_hex l.i

abbrev pub decreases-pieces : goal.decreases-pieces
decreases-pieces l = length l.initial.octets - l.i
