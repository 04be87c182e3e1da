use Rattle.run_model.proofs.CutRuns.{runs_have_their_cuts}
use Rattle.run_model.proofs.orders.runs_have_their_cuts.Goals as goal

pub returns : goal.returns
returns g c = λ setting. runs_have_their_cuts (g.Net.Routers.step setting)
