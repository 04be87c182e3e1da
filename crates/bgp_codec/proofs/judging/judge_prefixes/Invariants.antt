-- so many prefixes were passed, and stand before what is left to read
use Rattle.std.proofs.Common.{length}
use Rattle.bgp_codec.proofs.PartLemmas.{Counted}
use Rattle.bgp_codec.proofs.judging.judge_prefixes.Given as goal

abbrev pub invariant-prefixes : goal.invariant-prefixes
invariant-prefixes l = Counted l.octets l.count l.left

abbrev pub decreases-prefixes : goal.decreases-prefixes
decreases-prefixes l = length l.left
