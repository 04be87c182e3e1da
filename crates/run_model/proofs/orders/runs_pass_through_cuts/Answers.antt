use Rattle.run_model.proofs.CutRuns.{runs_pass_through_cuts}
use Rattle.run_model.proofs.orders.runs_pass_through_cuts.Goals as goal

pub returns : goal.returns
returns g c = λ setting. runs_pass_through_cuts (g.Net.Routers.step setting)
