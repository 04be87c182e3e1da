-- By induction over the moves.
use Rattle.run_model.proofs.IncarnationRuns.{all_facts}
use Rattle.run_model.proofs.links.end_facts_hold.Goals as goal

pub returns : goal.returns
returns g c = all_facts
