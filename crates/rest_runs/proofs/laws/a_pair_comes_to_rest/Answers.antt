-- By computation.
use Rattle.rest_runs.proofs.Pair.{rests, session, adds, works}
use Rattle.rest_runs.proofs.laws.a_pair_comes_to_rest.Goals as goal

pub returns : goal.returns
returns c = record { alone = rests; session = session; sum = adds; work = works }
