-- By what each calm event leaves to do.
use Rattle.rest_runs.proofs.Links.{Laws}
use Rattle.rest_runs.proofs.Stretch.{dial_no_higher, counted, change_or_end}
use Rattle.rest_runs.proofs.laws.calm_runs_change_paths.Goals as goal

pub returns : goal.returns
returns c =
    let laws : Laws = record {
      below = record { header = c.header_is_its_front.ensures; joins = c.signs_mean.ensures.joins; offers = c.signs_mean.ensures.offers };
      good = c.what_is_said_is_good.ensures;
      appends = c.steps_append_what_they_say.ensures;
      peers = c.linked_routers_are_peers.ensures;
    } in
    let all = counted laws c.runs_keep.ensures in
    record { dials = dial_no_higher laws c.runs_keep.ensures; counted = all; changes = change_or_end all }
