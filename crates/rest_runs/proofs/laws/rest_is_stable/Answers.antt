-- At rest all that was told is heard, and nothing is undecided.
use Rattle.rest_runs.proofs.Routes.{Laws, rest_is_the_one}
use Rattle.rest_runs.proofs.Routes as routes
use Rattle.rest_runs.proofs.laws.rest_is_stable.Goals as goal

pub returns : goal.returns
returns c =
    let laws : Laws = record {
      heard = record { header = c.header_is_its_front.ensures; good = c.what_is_said_is_good.ensures; append = c.passing_appends.ensures };
      peers = c.linked_routers_are_peers.ensures;
      runs_keep = c.runs_keep.ensures;
      is_run = c.what_is_played_is_a_run.ensures;
      stable = c.stable_is_the_models.ensures;
      has_model = c.runs_are_mirrored.ensures.model;
    } in
    let stable = routes.rest_is_stable laws in
    record { stable = stable; one = rest_is_the_one c.runs_are_mirrored.ensures.model stable c.safe_have_one_stable.ensures }
