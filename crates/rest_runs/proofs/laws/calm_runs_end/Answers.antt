-- Without dispute wheels kept paths change only so often.
use Rattle.rest_runs.proofs.Stretch as stretch
use Rattle.rest_runs.proofs.laws.calm_runs_end.Goals as goal

pub returns : goal.returns
returns g c =
    let calm = c.calm_runs_change_paths.ensures in
    let model = c.runs_are_mirrored.ensures.model in
    record {
      ends = stretch.calm_runs_end calm.dials calm.changes c.routers_change_seldom.ensures.bounded model;
      counted = stretch.bounded_counted calm.counted calm.dials c.routers_change_seldom.ensures.runs model;
    }
