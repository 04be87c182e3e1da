-- what was written, before what is left as it is shown, is all as it is shown
use Rattle.std.proofs.Common.{◌≡◌, ◌++◌, drop, map}
use Rattle.error_words.specs.Showing.{shown_octet}
use Rattle.error_words.proofs.showing.put_octets.Given as goal

abbrev pub invariant-loop-x : goal.invariant-loop-x
invariant-loop-x l = l.out.items ++ map shown_octet (drop l.x-index l.octets) ≡ l.fn.out.items ++ map shown_octet l.octets
