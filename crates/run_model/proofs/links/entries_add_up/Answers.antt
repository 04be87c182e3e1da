-- By induction over the entries.
use Rattle.run_model.proofs.FactLaws.{entries_add_up}
use Rattle.run_model.proofs.links.entries_add_up.Goals as goal

pub returns : goal.returns
returns g c = entries_add_up
