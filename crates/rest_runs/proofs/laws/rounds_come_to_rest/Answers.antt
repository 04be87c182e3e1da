-- Each round that does something does one calm event or more.
use Rattle.rest_runs.proofs.Worlds as worlds
use Rattle.rest_runs.proofs.laws.rounds_come_to_rest.Goals as goal

pub returns : goal.returns
returns g c = record {
  rest = worlds.rounds_come_to_rest c.answers_are_steps.ensures c.what_is_played_is_a_run.ensures c.calm_runs_end.ensures.ends;
  counted = worlds.rounds_are_counted c.answers_are_steps.ensures c.calm_runs_end.ensures.counted;
  found = worlds.rest_is_found c.answers_are_steps.ensures c.what_is_played_is_a_run.ensures c.calm_runs_end.ensures.ends;
}
