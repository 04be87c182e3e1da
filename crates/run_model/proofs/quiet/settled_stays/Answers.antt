-- By the invariant of unfinished snapshots, and what the events of a quiet run leave of the flag.
use Rattle.run_model.proofs.QuietFacts.{stays_while_quiet, quiet_runs_are_flagged}
use Rattle.run_model.proofs.quiet.settled_stays.Goals as goal

pub returns : goal.returns
returns g c = record { stays = stays_while_quiet; flag = quiet_runs_are_flagged }
