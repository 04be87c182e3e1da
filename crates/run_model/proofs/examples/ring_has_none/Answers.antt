-- Step by step.
use Rattle.run_model.proofs.RankedFacts.{ring_has_none}
use Rattle.run_model.proofs.examples.ring_has_none.Goals as goal

pub returns : goal.returns
returns c = ring_has_none
