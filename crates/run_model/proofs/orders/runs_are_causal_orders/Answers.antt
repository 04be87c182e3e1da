use Rattle.run_model.proofs.TakesAndPuts.{runs_are_causal_orders}
use Rattle.run_model.proofs.orders.runs_are_causal_orders.Goals as goal

pub returns : goal.returns
returns g c = λ setting. runs_are_causal_orders (g.Net.Routers.step setting)
