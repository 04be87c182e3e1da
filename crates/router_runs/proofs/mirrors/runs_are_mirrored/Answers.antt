-- By induction over the run.
use Rattle.router_runs.proofs.Stability.{each_setting_has_its_model}
use Rattle.router_runs.proofs.Mirroring.{runs_are_mirrored, mirrors_go_on}
use Rattle.router_runs.proofs.mirrors.runs_are_mirrored.Goals as goal

pub returns : goal.returns
returns c = record {
  model = each_setting_has_its_model c.laws_below.ensures;
  mirrored = runs_are_mirrored c.laws_below.ensures c.snapshot_laws_below.ensures;
  goes_on = mirrors_go_on c.laws_below.ensures c.snapshot_laws_below.ensures;
}
