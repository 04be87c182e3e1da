use Rattle.run_model.proofs.Runs.{every}
use Rattle.run_model.proofs.orders.causal_orders_are_runs.Goals as goal

pub returns : goal.returns
returns g c = λ setting. every (g.Net.Routers.step setting)
