-- the text of the prefixes passed
use Rattle.text_engines.proofs.PlaceLemmas.{IsTextTo}
use Rattle.text_engines.proofs.movers.put_all.Given as goal

abbrev pub invariant-loop-place : goal.invariant-loop-place
invariant-loop-place l = IsTextTo l.network l.entries l.origins l.place l.fn.out.items l.out.items
