use Rattle.run_model.proofs.OctetFacts.{passing_more}
use Rattle.run_model.proofs.octets.passing_appends.Goals as goal

pub returns : goal.returns
returns g c = passing_more
